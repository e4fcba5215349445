-- Multipliers: a weight of the objective and weights of sides of rows, and the bound that their sum
-- gives.
use Rattle.std.specs.Prelude.{◌≡◌, ℕ, ℤ, pos, ◌+ℤ◌, ◌-ℤ◌, ◌*ℤ◌, neg_ℤ, ◌<◌, ◌≤ℤ◌, ◌⊎◌}
use Rattle.std.specs.Prelude.{List, [], ◌∷◌, length, slice_index_or, Option, IsSome}
use Rattle.std.specs.Option.{unwrap_or}
use Rattle.std.specs.Int.{int_div_euclid}
use Rattle.ug_rows.specs.declared.area.Interval.{Interval}
use Rattle.ug_rows.specs.declared.row.Row.{Row}
use Rattle.ug_rows.specs.Boxes.{IsInside}
use Rattle.ug_rows.specs.Rows.{sum_at, value_of}
use Rattle.ug_problem.specs.Instances.{Instance, row_at}
use Rattle.ug_problem.specs.Feasible.{Feasible}
use Rattle.ug_surrogate.specs.declared.multipliers.Side.{Side}
use Rattle.ug_surrogate.specs.declared.multipliers.Side.TheVariants.{Low, High}
use Rattle.ug_surrogate.specs.declared.multipliers.Multiplier.{Multiplier}
use Rattle.ug_surrogate.specs.declared.multipliers.Multipliers.{Multipliers}

-- a multiplier that stands for one that is not there
abbrev pub no_multiplier : Multiplier
no_multiplier = record { row = 0; side = Low; weight = 0 }

-- multiplier k
abbrev pub multiplier_at : List Multiplier → ℕ → Multiplier
multiplier_at list k = slice_index_or list k no_multiplier

-- this side of the row, if it has it
abbrev pub side_of : Side → Row → Option ℤ
side_of Low row = row.low
side_of High row = row.high

-- the side that a multiplier weighs
abbrev pub side_under : Instance → Multiplier → ℤ
side_under p u = unwrap_or (side_of u.side (row_at p u.row)) (pos 0)

-- the row that a multiplier names is there, and has that side
pub record HasSide (p : Instance) (u : Multiplier) : Type 0 where
  pub there : u.row < length p.rows
  pub side : IsSome (side_of u.side (row_at p u.row))

-- the low side stands before the high side
abbrev pub IsLower : Side → Side → Type 0
IsLower Low Low = ⊥
IsLower Low High = Unit {0}
IsLower High other = ⊥

-- one multiplier stands before another: its row does, or it is the same row's low side and the
-- other the high
abbrev pub IsBefore : Multiplier → Multiplier → Type 0
IsBefore u v = (u.row < v.row) ⊎ ((u.row ≡ v.row) × IsLower u.side v.side)

-- rows and sides rise strictly
abbrev pub AreRising : List Multiplier → Type 0
AreRising list = (i k : ℕ) → i < k → k < length list
    → IsBefore (multiplier_at list i) (multiplier_at list k)

-- the objective has a weight, rows and sides rise strictly, and each row has the side
pub record AreMultipliers (p : Instance) (m : Multipliers) : Type 0 where
  pub some : 0 < m.d
  pub rising : AreRising m.list
  pub sides : (k : ℕ) → k < length m.list → HasSide p (multiplier_at m.list k)

-- by how much a sum misses a side of a row; below 0 where it satisfies it with some left
abbrev pub excess_over : Side → ℤ → ℤ → ℤ
excess_over Low side sum = side -ℤ sum
excess_over High side sum = sum -ℤ side

-- by how much x misses the side that a multiplier weighs
abbrev pub excess_at : Instance → Multiplier → List ℤ → ℤ
excess_at p u x = excess_over u.side (side_under p u) (sum_at (row_at p u.row).terms x)

-- the sum of these excesses at x, each times its weight
abbrev pub excesses_at : Instance → List Multiplier → List ℤ → ℤ
excesses_at p [] x = pos 0
excesses_at p (u ∷ us) x = (pos u.weight *ℤ excess_at p u x) +ℤ excesses_at p us x

-- the weighted sum at x: the value times the objective's weight, and the weighted excesses
abbrev pub weighted_at : Instance → Multipliers → List ℤ → ℤ
weighted_at p m x = (pos m.d *ℤ value_of p.objective x) +ℤ excesses_at p m.list x

-- f is the least weighted sum over the points of the box
pub record IsLeastWeighted (p : Instance) (area : List Interval) (m : Multipliers) (f : ℤ) :
    Type 0 where
  pub bound : (x : List ℤ) → IsInside area x → f ≤ℤ weighted_at p m x
  pub reached : (x : List ℤ) × IsInside area x × (weighted_at p m x ≡ f)

-- n / d, rounded up
abbrev pub rounded_up : ℤ → ℕ → ℤ
rounded_up n d = neg_ℤ (int_div_euclid (neg_ℤ n) (pos d))

-- no feasible point of the box has a value below this
abbrev pub BoundsAreBelow : Type 0
BoundsAreBelow = (p : Instance) (area : List Interval) (m : Multipliers) (f : ℤ)
    → AreMultipliers p m → IsLeastWeighted p area m f
    → (x : List ℤ) → IsInside area x → Feasible p x
    → rounded_up f m.d ≤ℤ value_of p.objective x
