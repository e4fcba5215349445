use Rattle.std.proofs.Common.{ℕ, ◌<◌}
use Rattle.ug_rows.specs.Boxes.{IsWithin, interval_at, value_at}
use Rattle.ug_problem.proofs.feasible.first_column.Given as goal

-- the values of the columns so far are within their bounds
abbrev pub invariant-loop-c : goal.invariant-loop-c
invariant-loop-c l = (j : ℕ) → j < l.c → IsWithin (interval_at l.sides j) (value_at l.values j)
