use Rattle.std.proofs.Common.{rules}
use Rattle.ug_base.specs.Views.{state_of}
use Rattle.ug_base.proofs.TaskLemmas.{lowered_task, searches_lowered}
use Rattle.ug_base.proofs.task.Task.lower.Goals as goal

pub invariant_of-self : goal.invariant_of-self
invariant_of-self c = record {
  task = lowered_task (state_of c.self.inside) c.args.cutoff _ c.self.invariant.task c.requires (search rules);
  chain = c.self.invariant.chain;
  searched = searches_lowered (state_of c.self.inside) c.self.inside.formulation.searched c.args.cutoff _ (search rules)
      c.self.invariant.searched;
}
