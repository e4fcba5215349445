-- The weighted sum column by column: the objective and the rows of the multipliers are parts of it,
-- each column has one coefficient in it, and its least over a box is at an end of each column.
use Rattle.std.specs.Prelude.{ℕ, zero, suc, ℤ, pos, ◌+◌, ◌*◌, ◌^◌, ◌<◌, ◌≤◌, ◌+ℤ◌, ◌-ℤ◌, ◌*ℤ◌, neg_ℤ}
use Rattle.std.specs.Prelude.{List, [], ◌∷◌, length, nat_eq, nat_lt, if◌then◌else◌, unsigned_abs}
use Rattle.ug_rows.specs.declared.area.Interval.{Interval}
use Rattle.ug_rows.specs.declared.row.Term.{Term}
use Rattle.ug_rows.specs.declared.sums.Extreme.TheVariants.{Least}
use Rattle.ug_rows.specs.Boxes.{interval_at}
use Rattle.ug_rows.specs.Sums.{end_of}
use Rattle.ug_problem.specs.declared.entries.ColumnEntry.{ColumnEntry}
use Rattle.ug_problem.specs.Instances.{Instance, row_at}
use Rattle.ug_problem.specs.ColumnEntries.{entry_at}
use Rattle.ug_surrogate.specs.declared.multipliers.Side.{Side}
use Rattle.ug_surrogate.specs.declared.multipliers.Side.TheVariants.{Low, High}
use Rattle.ug_surrogate.specs.declared.multipliers.Multiplier.{Multiplier}
use Rattle.ug_surrogate.specs.declared.multipliers.Multipliers.{Multipliers}
use Rattle.ug_surrogate.specs.Magnitudes.{IsSmall}
use Rattle.ug_surrogate.specs.Weights.{multiplier_at, side_under}

-- a weight with the sign that its side gives the row's sum
abbrev pub signed_for : Side → ℕ → ℤ
signed_for Low weight = neg_ℤ (pos weight)
signed_for High weight = pos weight

abbrev pub signed_weight : Multiplier → ℤ
signed_weight u = signed_for u.side u.weight

-- a weight and the terms that it weighs
pub record WeightedTerms : Type 0 where
  pub weight : ℤ
  pub terms : List Term

abbrev pub part_of : Instance → Multiplier → WeightedTerms
part_of p u = record { weight = signed_weight u; terms = (row_at p u.row).terms }

-- the parts of the multipliers
abbrev pub parts_under : Instance → List Multiplier → List WeightedTerms
parts_under p [] = []
parts_under p (u ∷ us) = part_of p u ∷ parts_under p us

-- the parts of the weighted sum, the objective's first
abbrev pub parts_of : Instance → Multipliers → List WeightedTerms
parts_of p m = record { weight = pos m.d; terms = p.objective.terms } ∷ parts_under p m.list

-- the coefficient of a term where it is of column j
abbrev pub factor_at : ℕ → Term → ℤ
factor_at j t = if nat_eq t.column j then t.factor else pos 0

-- the coefficient of column j in the terms
abbrev pub factor_in : ℕ → List Term → ℤ
factor_in j [] = pos 0
factor_in j (t ∷ terms) = factor_at j t +ℤ factor_in j terms

-- the coefficient of column j in the weighted sum
abbrev pub factor_of : ℕ → List WeightedTerms → ℤ
factor_of j [] = pos 0
factor_of j (part ∷ parts) = (part.weight *ℤ factor_in j part.terms) +ℤ factor_of j parts

-- the least product of a coefficient over an interval
abbrev pub least_product : ℤ → Interval → ℤ
least_product f side = f *ℤ end_of Least f side

-- the sum over the columns below n of the least products
abbrev pub least_below : ℕ → List WeightedTerms → List Interval → ℤ
least_below zero parts area = pos 0
least_below (suc n) parts area =
    least_below n parts area +ℤ least_product (factor_of n parts) (interval_at area n)

-- a side of a row times its signed weight, and how large that is
abbrev pub weighted_side : Instance → Multiplier → ℤ
weighted_side p u = signed_weight u *ℤ side_under p u

abbrev pub weighted_side_size : Instance → Multiplier → ℕ
weighted_side_size p u = u.weight * unsigned_abs (side_under p u)

-- the sides that are weighed, and the objective's constant: what no column changes
abbrev pub sides_under : Instance → List Multiplier → ℤ
sides_under p [] = pos 0
sides_under p (u ∷ us) = weighted_side p u +ℤ sides_under p us

abbrev pub constant_of : Instance → Multipliers → ℤ
constant_of p m = (pos m.d *ℤ p.objective.constant) -ℤ sides_under p m.list

-- what no column changes, and the least products of the columns below n
abbrev pub least_to : ℕ → Instance → Multipliers → List Interval → ℤ
least_to n p m area = constant_of p m +ℤ least_below n (parts_of p m) area

-- the signed weight of a multiplier where it is of row r
abbrev pub weight_if : ℕ → Multiplier → ℤ
weight_if r u = if nat_eq u.row r then signed_weight u else pos 0

-- the signed weights of row r
abbrev pub weight_on : ℕ → List Multiplier → ℤ
weight_on r [] = pos 0
weight_on r (u ∷ us) = weight_if r u +ℤ weight_on r us

-- that of multiplier k, if there is one
abbrev pub weight_there : ℕ → List Multiplier → ℕ → ℤ
weight_there r list k = if nat_lt k (length list) then weight_if r (multiplier_at list k) else pos 0

-- the multipliers from this place on are of rows from this one on, and no other is
pub record IsRowPlace (list : List Multiplier) (row at : ℕ) : Type 0 where
  pub there : at ≤ length list
  pub ahead : (k : ℕ) → k < at → (multiplier_at list k).row < row
  pub behind : (k : ℕ) → at ≤ k → k < length list → row ≤ (multiplier_at list k).row

-- the weight of row r, which behind the last of this many rows is the objective's
abbrev pub weight_in : ℕ → Multipliers → ℕ → ℤ
weight_in rows m r = if nat_eq r rows then pos m.d else weight_on r m.list

-- the coefficients of a column where it stands, each times the weight of its row
abbrev pub weighed : ℕ → Multipliers → List ColumnEntry → ℤ
weighed rows m [] = pos 0
weighed rows m (s ∷ ss) = (weight_in rows m s.row *ℤ s.factor) +ℤ weighed rows m ss

-- few standings with small coefficients
pub record AreFew (entries : List ColumnEntry) : Type 0 where
  pub count : length entries ≤ 10 ^ 4 + 1
  pub small : (k : ℕ) → k < length entries
      → unsigned_abs (entry_at entries k).factor ≤ 10 ^ 24

-- the weighted sum is small over some box
pub record IsSomewhereSmall (p : Instance) (m : Multipliers) : Type 0 where
  pub area : List Interval
  pub small : IsSmall p m area
