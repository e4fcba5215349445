use Rattle.std.proofs.Common.{◌≡◌, ◌∙◌, sym, true, false}
use Rattle.ug_propagate.proofs.Bodies.{last_fixed, last_open}
use Rattle.ug_propagate.proofs.Waiting.{last_at_fixpoint}
use Rattle.ug_propagate.proofs.settle.run_last.Goals as goal

pub returns-then-is_settled-clause-value : goal.returns-then-is_settled-clause-value
returns-then-is_settled-clause-value c =
    last_at_fixpoint c.args.problem.now c.args.cutoff c.args.work.now.sums.area c.args.work.now.queued
    c.is_settled.ensures.problem c.requires.cutoff c.requires.work.at_fixpoint (c.is_settled.ensures.settled c.if-is_settled.true)

pub returns-then-is_point-clause-value : goal.returns-then-is_point-clause-value
returns-then-is_point-clause-value c =
    c.in_ok-told.ensures.value
    ∙ sym (last_fixed c.args.problem.now c.args.cutoff c.args.work.now.sums.area (c.is_point.ensures.fixed c.if-is_point.true))

pub returns-clause-value : goal.returns-clause-value
returns-clause-value c =
    sym (last_open c.args.problem.now c.args.cutoff c.args.work.now.sums.area
    (λ fixed. let h : true ≡ false = sym (c.is_point.ensures.open_ fixed) ∙ c.if-is_point.false in cc))
