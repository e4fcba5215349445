use Rattle.std.proofs.Common.{ℕ, ◌<◌}
use Rattle.ug_rows.specs.Boxes.{IsWithin, interval_at, value_at}
use Rattle.ug_rows.proofs.point.all_within.Given as goal

abbrev pub invariant-loop-j : goal.invariant-loop-j
invariant-loop-j l = (k : ℕ) → k < l.j → IsWithin (interval_at l.sides k) (value_at l.values k)
