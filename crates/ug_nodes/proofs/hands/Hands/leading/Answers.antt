use Rattle.std.proofs.Common.{◌≡◌, ◌∙◌, List, [], length, sym, ap, subst}
use Rattle.ug_rows.specs.declared.area.Interval.{Interval}
use Rattle.ug_nodes.specs.declared.delta.Delta.{Delta}
use Rattle.ug_nodes.specs.Deltas.{IsFork, boxes_behind}
use Rattle.ug_nodes.specs.Hands.{Agree}
use Rattle.ug_nodes.proofs.DeltaLemmas.{hands_agree}
use Rattle.ug_nodes.proofs.hands.Hands.leading.Goals as goal

pub returns : goal.returns
returns c =
    let ds = c.self.inside.deltas.items in
    let es = c.other.inside.deltas.items in
    let n = c.leading.result in
    let fork : IsFork ds es n =
    subst (λ (a : List Delta). IsFork a es n) c.as_slice.ensures.value
    (subst (λ (b : List Delta). IsFork c.as_slice.result.now b n) c.as_slice-2.ensures.value c.leading.ensures) in
    let wide : length (boxes_behind [] ds) ≡ length (boxes_behind [] es) =
    ap (λ (a : List (List Interval)). length a) c.self.view_is
    ∙ c.requires ∙ sym (ap (λ (b : List (List Interval)). length b) c.other.view_is) in
    subst (λ (a : List (List Interval)). Agree a c.args.other.now n) c.self.view_is
    (subst (λ (b : List (List Interval)). Agree (boxes_behind [] ds) b n) c.other.view_is
    (hands_agree ds es c.self.inside.last.items c.other.inside.last.items n c.self.invariant c.other.invariant wide fork))
