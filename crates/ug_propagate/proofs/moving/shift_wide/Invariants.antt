use Rattle.ug_propagate.proofs.Running.{AreShifted}
use Rattle.ug_propagate.proofs.moving.shift_wide.Given as goal

-- the rows of the standings so far have their new sums
abbrev pub invariant-loop-entry : goal.invariant-loop-entry
invariant-loop-entry l = AreShifted l.problem l.column l.area l.fn.side l.entries l.entry-index l.sums
