use Rattle.ug_problem.specs.Locks.{AreLocksTo}
use Rattle.ug_problem.proofs.locks.locking_rows.Given as goal

-- the list has the rows of the standings so far
abbrev pub invariant-loop-k : goal.invariant-loop-k
invariant-loop-k l = AreLocksTo l.inward l.rows l.entries l.k l.list
