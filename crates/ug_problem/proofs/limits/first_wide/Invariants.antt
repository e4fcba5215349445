use Rattle.ug_problem.specs.Limits.{FirstNarrow}
use Rattle.ug_problem.proofs.limits.first_wide.Given as goal

-- the rows so far are narrow
abbrev pub invariant-loop-r : goal.invariant-loop-r
invariant-loop-r l = FirstNarrow l.rows l.r
