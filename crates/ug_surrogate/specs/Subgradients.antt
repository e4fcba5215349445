-- A list of multipliers that is made row by row.
use Rattle.std.specs.Prelude.{ℕ, ◌<◌, List, length}
use Rattle.ug_problem.specs.Instances.{Instance}
use Rattle.ug_surrogate.specs.declared.multipliers.Multiplier.{Multiplier}
use Rattle.ug_surrogate.specs.Weights.{AreRising, HasSide, multiplier_at}

-- multipliers in rising order, of rows below n that have the sides
pub record AreOfRowsBelow (p : Instance) (n : ℕ) (list : List Multiplier) : Type 0 where
  pub rising : AreRising list
  pub below : (k : ℕ) → k < length list → (multiplier_at list k).row < n
  pub sides : (k : ℕ) → k < length list → HasSide p (multiplier_at list k)
