use Rattle.ug_problem.proofs.Printing.{IsSplit}
use Rattle.ug_problem.proofs.print.split.Given as goal

abbrev pub invariant-loop-place : goal.invariant-loop-place
invariant-loop-place l = IsSplit l.fn.decimal.digits l.place l.whole l.fraction.items
