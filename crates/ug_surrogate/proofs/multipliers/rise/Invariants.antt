use Rattle.std.proofs.Common.{ℕ, ◌<◌}
use Rattle.ug_surrogate.specs.Weights.{IsBefore, multiplier_at}
use Rattle.ug_surrogate.proofs.multipliers.rise.Given as goal

abbrev pub invariant-loop-k : goal.invariant-loop-k
invariant-loop-k l = (i j : ℕ) → i < j → j < l.k → IsBefore (multiplier_at l.list i) (multiplier_at l.list j)
