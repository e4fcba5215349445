use Rattle.ug_propagate.proofs.Changing.{step_change}
use Rattle.ug_propagate.proofs.working.Working.cut.Goals as goal

pub returns-clause-step : goal.returns-clause-step
returns-clause-step c =
    step_change c.args.problem.now c.args.column c.args.side c.args.self.now c.change.new.self c.requires.work c.requires.there
    c.requires.inner c.in_ok-change.ensures.ok
