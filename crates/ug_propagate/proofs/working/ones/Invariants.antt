use Rattle.ug_propagate.specs.Working.{AreOnes}
use Rattle.ug_propagate.proofs.working.ones.Given as goal

abbrev pub invariant-loop : goal.invariant-loop
invariant-loop l = AreOnes l.counter l.queued.items
