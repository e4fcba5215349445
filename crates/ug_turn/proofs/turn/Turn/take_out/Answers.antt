use Rattle.std.proofs.Common.{◌≡◌, ◌<◌, ◌∙◌, [], ◌∷◌, Some, arith, ap, subst, sym, refl}
use Rattle.atomic_table.specs.Table.{rest}
use Rattle.ug_turn.proofs.Keeping.{takes_out}
use Rattle.ug_turn.proofs.turn.Turn.take_out.Goals as goal

pub load-requires : goal.load-requires
load-requires g c =
    let t = c.args.self.now.table.shared.table_id in
    let three = c.args.self.now.three in
    let words : 1 < t.words = omega (arith, three) in
    let at = c.requires.turn.at in
    let place = c.args.seat.now.place in
    (c.requires.lock, words, takes_out _ _ _ _ _ _ t.slots place.id place.me at.role at.step_is)

pub exchange-requires : goal.exchange-requires
exchange-requires g c =
    let took = c.load.ensures.2 in
    let out : c.load.new.seat.me.1 ≡ (0, Some took.held) ∷ [] = took.slots ∙ ap (λ l. (0, Some took.held) ∷ l) c.requires.turn.slots in
    (c.load.ensures.0 ∙ c.requires.lock, (Some took.held, subst (λ l. l ≡ (0, Some took.held) ∷ rest l) (sym out) refl))
