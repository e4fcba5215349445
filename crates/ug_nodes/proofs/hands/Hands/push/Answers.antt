use Rattle.std.proofs.Common.{◌∙◌, List, [], ◌∷◌, ◌++◌, sym, ap, subst}
use Rattle.ug_nodes.specs.declared.delta.Delta.{Delta}
use Rattle.ug_nodes.specs.Deltas.{IsDelta}
use Rattle.ug_nodes.specs.Hands.{AreHands}
use Rattle.ug_nodes.proofs.DeltaLemmas.{hands_push}
use Rattle.ug_nodes.proofs.hands.Hands.push.Goals as goal

pub invariant_of-self-in-Ok : goal.invariant_of-self-in-Ok
invariant_of-self-in-Ok c =
    let old = c.self.inside.deltas.items in
    let last = c.self.inside.last.items in
    let delta = c.in_ok-delta.delta in
    let next = c.apply.new.sides.items in
    subst (λ (ds : List Delta). AreHands ds next)
    (sym (c.push_reserved.ensures.items ∙ ap (λ (ds : List Delta). ds ++ delta ∷ []) c.in_ok-reserve.ensures.items))
    (hands_push old last next delta c.self.invariant
    (subst (λ l. IsDelta l delta) c.as_slice.ensures.value c.in_ok-delta.ensures.delta) c.in-Ok.ensures.ok)
