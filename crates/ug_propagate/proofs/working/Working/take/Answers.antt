use Rattle.std.proofs.Common.{subst}
use Rattle.ug_rows.specs.Boxes.{interval_at}
use Rattle.ug_propagate.specs.Cuts.{IsInnerCut}
use Rattle.ug_propagate.proofs.Changing.{step_change}
use Rattle.ug_propagate.proofs.working.Working.take.Goals as goal

pub returns-in_ok-change-in-To-clause-step : goal.returns-in_ok-change-in-To-clause-step
returns-in_ok-change-in-To-clause-step c =
    let old = c.args.self.now in
    step_change c.args.problem.now c.args.column c.in-To.side old c.change.new.self c.requires.work c.requires.there
    (subst (IsInnerCut (interval_at old.sums.area c.args.column)) c.in-To.is c.requires.inner) c.in_ok-change-in-To.ensures.ok
