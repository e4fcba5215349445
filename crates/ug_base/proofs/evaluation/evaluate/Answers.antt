use Rattle.std.proofs.Common.{Bool, List, MatchBool, subst, sym}
use Rattle.ug_rows.specs.declared.area.Interval.{Interval}
use Rattle.ug_rows.specs.Boxes.{IsCrossed, IsNonEmpty}
use Rattle.ug_branch.specs.Choices.{AreClosed}
use Rattle.ug_base.specs.Chains.{area_of}
use Rattle.ug_base.specs.Evaluations.{CanEvaluate, IsSeen}
use Rattle.ug_base.proofs.Chains.{base_later, bases_later, bases_trans}
use Rattle.ug_base.proofs.Sight.{crossed_hopeless}
use Rattle.ug_base.proofs.evaluation.evaluate.Goals as goal

pub evaluate_inside-requires-clause-closed : goal.evaluate_inside-requires-clause-closed
evaluate_inside-requires-clause-closed c =
    subst (AreClosed c.args.open_box.closed) (sym c.in_ok-enter.ensures.area) c.requires.open_box.closed

pub returns-in_err-seen-clause-kept : goal.returns-in_err-seen-clause-kept
returns-in_err-seen-clause-kept c =
    bases_trans c.args.open_box.depth c.args.work.now c.enter.new.work c.evaluate_inside.new.work c.enter.ensures.kept
    (bases_later c.args.open_box.depth c.enter.new.work c.evaluate_inside.new.work c.enter.ensures.kept.deep
    c.evaluate_inside.ensures.went.later)

pub returns-in_ok-seen-clause-kept : goal.returns-in_ok-seen-clause-kept
returns-in_ok-seen-clause-kept c =
    bases_trans c.args.open_box.depth c.args.work.now c.enter.new.work c.evaluate_inside.new.work c.enter.ensures.kept
    (bases_later c.args.open_box.depth c.enter.new.work c.evaluate_inside.new.work c.enter.ensures.kept.deep
    c.evaluate_inside.ensures.went.later)

pub returns-else-branch-clause-seen : goal.returns-else-branch-clause-seen
returns-else-branch-clause-seen c =
    let area = c.enter.new.work.sums.area in
    let P : Bool → Type 0 = λ (b : Bool). MatchBool b (IsNonEmpty area) (IsCrossed area) in
    crossed_hopeless c.args.problem.now c.args.cutoff (area_of c.args.work.now c.args.open_box)
    (subst (λ (a : List Interval). IsCrossed a) c.in_ok-enter.ensures.area (subst P c.if-branch.false c.in_ok-enter.ensures.some))

pub evaluate_inside-requires-clause-can : goal.evaluate_inside-requires-clause-can
evaluate_inside-requires-clause-can c =
    subst (λ (a : List Interval). CanEvaluate c.args.problem.now c.args.cutoff a) (sym c.in_ok-enter.ensures.area) c.requires.can

pub returns-in_err-seen-clause-base : goal.returns-in_err-seen-clause-base
returns-in_err-seen-clause-base c =
    base_later c.args.problem.now c.args.whole.now c.enter.new.work c.evaluate_inside.new.work c.enter.ensures.base
    c.evaluate_inside.ensures.went.later c.evaluate_inside.ensures.went.working.box

pub returns-in_ok-seen-clause-base : goal.returns-in_ok-seen-clause-base
returns-in_ok-seen-clause-base c =
    base_later c.args.problem.now c.args.whole.now c.enter.new.work c.evaluate_inside.new.work c.enter.ensures.base
    c.evaluate_inside.ensures.went.later c.evaluate_inside.ensures.went.working.box

pub returns-in_ok-seen-clause-seen : goal.returns-in_ok-seen-clause-seen
returns-in_ok-seen-clause-seen c =
    subst (λ (a : List Interval). IsSeen c.args.problem.now c.args.cutoff c.args.scores.now a c.evaluate_inside.new.work c.in_ok-seen.seen)
    c.in_ok-enter.ensures.area c.in_ok-seen.ensures.seen
