use Rattle.ug_problem.proofs.Numerals.{IsSoFar}
use Rattle.ug_problem.proofs.decimal.reading.small.Given as goal

abbrev pub invariant-loop-digit : goal.invariant-loop-digit
invariant-loop-digit l = IsSoFar l.digits l.digit-index l.number
