use Rattle.std.proofs.Common.{List, subst}
use Rattle.ug_io.specs.declared.crew.Exchange.{Exchange}
use Rattle.ug_serve.specs.Worked.{AreAlwaysWorked}
use Rattle.ug_model.proofs.sim_workers.SimWorkers.is_worked.Goals as goal

pub returns : goal.returns
returns c = subst (λ (said : List Exchange). AreAlwaysWorked said) c.self.view_is c.self.invariant.always
