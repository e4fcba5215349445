use Rattle.ug_model.specs.SimWorkers.{AreEmpty}
use Rattle.ug_model.proofs.sim_workers.empty.Given as goal

abbrev pub invariant-loop : goal.invariant-loop
invariant-loop l = record {
  none : AreEmpty l.slots.items;
}
