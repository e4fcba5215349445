use Rattle.std.proofs.Common.{ℕ, ◌<◌}
use Rattle.ug_rows.specs.Boxes.{IsNarrower, interval_at}
use Rattle.ug_rows.proofs.area.all_narrower.Given as goal

abbrev pub invariant-loop-j : goal.invariant-loop-j
invariant-loop-j l = (k : ℕ) → k < l.j → IsNarrower (interval_at l.inner k) (interval_at l.outer k)
