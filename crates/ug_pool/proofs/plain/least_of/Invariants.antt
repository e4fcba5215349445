use Rattle.ug_pool.specs.Plain.{IsLeast}
use Rattle.ug_pool.proofs.plain.least_of.Given as goal

abbrev pub invariant-loop-k : goal.invariant-loop-k
invariant-loop-k l = IsLeast l.k l.entries l.best
