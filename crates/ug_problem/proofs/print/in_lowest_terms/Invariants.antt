use Rattle.ug_problem.proofs.Printing.{IsSame}
use Rattle.ug_problem.proofs.print.in_lowest_terms.Given as goal

abbrev pub invariant-loop-places : goal.invariant-loop-places
invariant-loop-places l = IsSame l.scale l.number l.digits l.places

abbrev pub decreases-loop-places : goal.decreases-loop-places
decreases-loop-places l = l.places
