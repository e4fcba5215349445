use Rattle.ug_problem.specs.Locks.{AreFirstLocks}
use Rattle.ug_problem.proofs.locks.all_locks.Given as goal

-- the lists are those of the columns so far
abbrev pub invariant-loop-j : goal.invariant-loop-j
invariant-loop-j l = AreFirstLocks l.inward l.rows l.entries l.j l.lists.items
