use Rattle.std.proofs.Common.{ℕ, ◌<◌}
use Rattle.ug_surrogate.specs.Weights.{HasSide, multiplier_at}
use Rattle.ug_surrogate.proofs.multipliers.have_sides.Given as goal

abbrev pub invariant-loop-k : goal.invariant-loop-k
invariant-loop-k l = (i : ℕ) → i < l.k → HasSide l.problem (multiplier_at l.list i)
