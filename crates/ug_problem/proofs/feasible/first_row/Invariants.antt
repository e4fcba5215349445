use Rattle.ug_problem.specs.Feasible.{KeepsBelow}
use Rattle.ug_problem.proofs.feasible.first_row.Given as goal

-- the point satisfies the rows so far
abbrev pub invariant-loop-r : goal.invariant-loop-r
invariant-loop-r l = KeepsBelow l.problem l.r l.point
