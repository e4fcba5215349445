use Rattle.std.proofs.Common.{ℕ, ◌<◌, ◌≤ℤ◌}
use Rattle.ug_rows.specs.Boxes.{interval_at}
use Rattle.ug_rows.proofs.area.has_point.Given as goal

abbrev pub invariant-loop-j : goal.invariant-loop-j
invariant-loop-j l = (k : ℕ) → k < l.j → (interval_at l.sides k).low ≤ℤ (interval_at l.sides k).high
