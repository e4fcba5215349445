use Rattle.std.proofs.Common.{◌≡◌, ◌≤◌, ◌+◌, ◌*◌, unsigned_abs}
use Rattle.ug_surrogate.proofs.Sizes.{constant_to, sides_to}
use Rattle.ug_surrogate.proofs.columns.constant.Given as goal

abbrev pub invariant-loop-multiplier : goal.invariant-loop-multiplier
invariant-loop-multiplier l = record {
  value : l.total ≡ constant_to l.problem l.m l.multiplier-index;
  small : unsigned_abs l.total ≤ l.m.d * unsigned_abs l.problem.objective.constant + sides_to l.problem l.m.list l.multiplier-index;
}
