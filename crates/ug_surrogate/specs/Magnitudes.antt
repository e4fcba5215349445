-- How large a weighted sum can become over a box, and where that passes the greatest sum allowed.
use Rattle.std.specs.Prelude.{◌≡◌, ℕ, ◌+◌, ◌*◌, ◌^◌, ◌<◌, ◌≤◌, List, [], ◌∷◌, length, take}
use Rattle.std.specs.Prelude.{unsigned_abs, Option, Some, None, max}
use Rattle.ug_rows.specs.declared.area.Interval.{Interval}
use Rattle.ug_rows.specs.declared.row.Term.{Term}
use Rattle.ug_rows.specs.declared.row.Objective.{Objective}
use Rattle.ug_rows.specs.Boxes.{interval_at}
use Rattle.ug_problem.specs.Instances.{Instance, row_at}
use Rattle.ug_surrogate.specs.declared.multipliers.Multiplier.{Multiplier}
use Rattle.ug_surrogate.specs.declared.multipliers.Multipliers.{Multipliers}
use Rattle.ug_surrogate.specs.declared.multipliers.TooBig.{TooBig}
use Rattle.ug_surrogate.specs.Weights.{multiplier_at, side_under}

-- the greatest absolute value of a bound of the interval
abbrev pub reach_of : Interval → ℕ
reach_of side = max (unsigned_abs side.low) (unsigned_abs side.high)

-- the magnitude of the terms over the box: each coefficient's absolute value times its column's
-- reach
abbrev pub magnitude : List Term → List Interval → ℕ
magnitude [] area = 0
magnitude (t ∷ terms) area =
    unsigned_abs t.factor * reach_of (interval_at area t.column) + magnitude terms area

-- that of the objective with its constant
abbrev pub objective_magnitude : Objective → List Interval → ℕ
objective_magnitude objective area =
    magnitude objective.terms area + unsigned_abs objective.constant

-- that of the row with the side that a multiplier weighs
abbrev pub row_magnitude : Instance → Multiplier → List Interval → ℕ
row_magnitude p u area = magnitude (row_at p u.row).terms area + unsigned_abs (side_under p u)

-- the sum of those, each times its weight
abbrev pub magnitudes : Instance → List Multiplier → List Interval → ℕ
magnitudes p [] area = 0
magnitudes p (u ∷ us) area = u.weight * row_magnitude p u area + magnitudes p us area

-- the objective's times its weight, and those of the first n multipliers
abbrev pub size_to : Instance → Multipliers → List Interval → ℕ → ℕ
size_to p m area n =
    m.d * objective_magnitude p.objective area + magnitudes p (take n m.list) area

-- multiplier k, which is of row r, is the first with which the sum is above 10^38
pub record PassesAt (p : Instance) (m : Multipliers) (area : List Interval) (r k : ℕ) :
    Type 0 where
  pub there : k < length m.list
  pub row : (multiplier_at m.list k).row ≡ r
  pub before : size_to p m area k ≤ 10 ^ 38
  pub passed : 10 ^ 38 < size_to p m area (k + 1)

-- the sum, objective first, passes 10^38 at the objective, or first at this row
abbrev pub IsPassed : Instance → Multipliers → List Interval → Option ℕ → Type 0
IsPassed p m area None = 10 ^ 38 < size_to p m area 0
IsPassed p m area (Some r) = (k : ℕ) × PassesAt p m area r k

-- the row at which the sum passes 10^38
abbrev pub IsTooBig : Instance → Multipliers → List Interval → TooBig → Type 0
IsTooBig p m area told = IsPassed p m area told.row

-- it nowhere does
abbrev pub IsSmall : Instance → Multipliers → List Interval → Type 0
IsSmall p m area = size_to p m area (length m.list) ≤ 10 ^ 38
