use Rattle.std.proofs.Common.{◌++◌, [], ◌∷◌, List, length, ap, sym, ◌∙◌, subst, arith}
use Rattle.std.proofs.lemmas.List.{append_assoc}
use Rattle.std.specs.Vec.Iter.{into_iter_items}
use Rattle.ug_desk.specs.Passes.{AreSeatsOf, PassState}
use Rattle.ug_desk.proofs.Seating.{seats_more}
use Rattle.ug_desk.proofs.passes.seats.Goals as goal

pub loop-pass-preserved : goal.loop-pass-preserved
loop-pass-preserved c = record {
  split = append_assoc c.loop-pass.yielded (c.in-Some.pass ∷ []) (into_iter_items c.next.new.self)
      ∙ (ap (λ (rest : List PassState). c.loop-pass.yielded ++ rest) (sym c.in-Some.ensures.steps.0)
      ∙ c.loop-pass.invariant.split);
  room = omega (
    arith,
    c.push_reserved.ensures.len,
    c.push_reserved.ensures.capacity,
    c.loop-pass.invariant.room,
    ap (λ (rest : List PassState). length rest) c.in-Some.ensures.steps.0,
  );
  each = subst (AreSeatsOf (c.loop-pass.yielded ++ c.in-Some.pass ∷ [])) (sym c.push_reserved.ensures.items)
      (seats_more c.loop-pass.yielded c.loop-pass.seats.items c.in-Some.pass c.into_seat.result
      c.loop-pass.invariant.each c.into_seat.ensures);
}
