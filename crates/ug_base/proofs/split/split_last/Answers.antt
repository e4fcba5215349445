use Rattle.std.proofs.Common.{◌∙◌, ap, sym, subst, set, List}
use Rattle.ug_rows.specs.declared.area.Interval.{Interval}
use Rattle.ug_problem.specs.Instances.{Instance}
use Rattle.ug_base.specs.declared.open_box.OpenBox.{OpenBox}
use Rattle.ug_base.specs.Chains.{IsChain, IsOpenBox}
use Rattle.ug_base.proofs.Chains.{chain_split}
use Rattle.ug_rows.specs.Boxes.{IsClosedWithin, interval_at}
use Rattle.ug_base.proofs.Splits.{first_half_is, first_inner, other_half_is, second_inner}
use Rattle.ug_base.proofs.split.split_last.Goals as goal

pub open_box_with-first-requires-clause-inner : goal.open_box_with-first-requires-clause-inner
open_box_with-first-requires-clause-inner c =
    let area = c.args.work.now.sums.area in
    subst (λ (s : Interval). IsClosedWithin s (interval_at area c.args.branching.branch.column)) (sym c.sides_at-sides.ensures.first)
    (first_inner c.args.scores.now area c.args.branching c.requires.branched)

pub open_box_with-second-requires-clause-inner : goal.open_box_with-second-requires-clause-inner
open_box_with-second-requires-clause-inner c =
    let area = c.args.work.now.sums.area in
    subst (λ (s : Interval). IsClosedWithin s (interval_at area c.args.branching.branch.column)) (sym c.sides_at-sides.ensures.second)
    (second_inner c.args.scores.now area c.args.branching c.requires.branched)

pub returns-clause-ok : goal.returns-clause-ok
returns-clause-ok c =
    let p = c.args.formulation.now.searched in
    let work = c.args.work.now in
    let area = work.sums.area in
    let branch = c.args.branching.branch in
    let second = c.open_box_with-second.result in
    let first = c.open_box_with-first.result in
    let put = c.in_ok-replace_last.ensures.ok in
    let same = c.searched-problem.ensures.value in
    record {
      first = first;
      second = second;
      put = put;
      area_first = c.open_box_with-first.ensures.area ∙ ap (λ (s : Interval). set area branch.column s) c.sides_at-sides.ensures.first
          ∙ first_half_is c.args.branching.first area branch;
      area_second = c.open_box_with-second.ensures.area ∙ ap (λ (s : Interval). set area branch.column s) c.sides_at-sides.ensures.second
          ∙ other_half_is c.args.branching.first area branch;
      chain = subst (λ (ps : List OpenBox). IsChain p c.args.whole.now work ps) (sym put)
          (chain_split p c.args.whole.now work c.args.open_boxes.now first second c.requires.chain
          (subst (λ (q : Instance). IsOpenBox q c.args.whole.now work first) same c.open_box_with-first.ensures.open_box)
          (subst (λ (q : Instance). IsOpenBox q c.args.whole.now work second) same c.open_box_with-second.ensures.open_box)
          c.open_box_with-first.ensures.depth c.open_box_with-second.ensures.depth);
    }
