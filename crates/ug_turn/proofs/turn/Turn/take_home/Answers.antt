use Rattle.std.proofs.Common.{◌≡◌, Some, arith, rules, subst}
use Rattle.ug_turn.specs.Locks.{passes_of}
use Rattle.ug_turn.specs.Seats.{EndsWith, view_of}
use Rattle.ug_turn.proofs.Ends.{closes, same_some}
use Rattle.ug_turn.proofs.turn.Turn.take_home.Goals as goal

pub take-requires : goal.take-requires
take-requires g c =
    let one = c.args.self.one in
    let count = c.close_with-closed.ensures.counts.1 in
    (omega arith, c.close_with-closed.ensures.values.1 0 (omega arith) (omega arith))

pub unwrap-held-requires : goal.unwrap-held-requires
unwrap-held-requires g c =
    let last = c.requires.last in
    let there = closes _ _ _ _ _ _ _ _ c.args.last.place.id c.args.last.place.me.0 last.role c.requires.all last.step c.close_with-closed.ensures.values.2 in
    let is : c.take.result ≡ Some there.0 = same_some _ c.take.result (Some there.0) c.take.ensures.value there.1 in
    search rules

pub returns : goal.returns
returns g c =
    let last = c.requires.last in
    let there = closes _ _ _ _ _ _ _ _ c.args.last.place.id c.args.last.place.me.0 last.role c.requires.all last.step c.close_with-closed.ensures.values.2 in
    let is : c.take.result ≡ Some there.0 = same_some _ c.take.result (Some there.0) c.take.ensures.value there.1 in
    let same : there.0 ≡ c.unwrap-held.result = search rules in
    subst (λ h. EndsWith g.V.Lasting.opening g.V.Lasting.replays g.V.Lasting.by (passes_of c.args.self) (view_of c.args.last) h.value) same there.2
