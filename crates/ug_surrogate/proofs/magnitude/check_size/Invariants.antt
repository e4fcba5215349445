use Rattle.std.proofs.Common.{◌≡◌, ◌≤◌, ◌^◌}
use Rattle.ug_surrogate.specs.Magnitudes.{size_to}
use Rattle.ug_surrogate.proofs.magnitude.check_size.Given as goal

abbrev pub invariant-loop-multiplier : goal.invariant-loop-multiplier
invariant-loop-multiplier l = record {
  value : l.total ≡ size_to l.problem l.m l.area l.multiplier-index;
  small : l.total ≤ 10 ^ 38;
}
