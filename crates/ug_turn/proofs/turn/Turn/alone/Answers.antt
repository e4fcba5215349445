use Rattle.std.proofs.Common.{◌≡◌, ◌<◌, ◌^◌, ◌∙◌, [], ◌∷◌, Some, ap, arith, refl, rules, subst, sym}
use Rattle.ug_turn.specs.declared.held.Held.{Held}
use Rattle.ug_turn.proofs.Keeping.{begins}
use Rattle.ug_turn.proofs.turn.Turn.alone.Goals as goal

pub new-requires : goal.new-requires
new-requires g c =
    let x = c.of.result.value in
    let held : Held g.row.V.Denot g.row.V-Entry.Denot = record { value = c.args.value; said = c.of-said.result } in
    let is : c.push.new.self.items ≡ Some held ∷ [] = search rules in
    let small : c.word-word.result < 2 ^ 64 = c.word-word.type_inv in
    let fits = c.ranges.passes.fits in
    begins g.V.Lasting.opening g.V.Lasting.replays g.V.Lasting.by g.V.Lasting.cutoff c.args.passes (g.V.Lasting.opening x) x c.word-word.result c.push.new.self.items held (sym c.of.ensures)
    (c.word-word.ensures ∙ ap g.V.Lasting.cutoff (sym c.of.ensures)) is refl (subst (λ y. g.V.Lasting.replays y []) (sym c.of.ensures) c.requires.empty) small (omega arith)
