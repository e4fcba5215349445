-- The row that each good point satisfies: the weighted sum is at most what the cutoff allows.
use Rattle.std.specs.Prelude.{◌≡◌, ℕ, zero, suc, ℤ, pos, ◌+ℤ◌, ◌-ℤ◌, ◌*ℤ◌, ◌≤ℤ◌, ◌<◌, ◌^◌, ◌↔◌, ◌⊎◌, List, length}
use Rattle.std.specs.Prelude.{Some, unsigned_abs}
use Rattle.ug_rows.specs.declared.row.Row.{Row}
use Rattle.ug_rows.specs.declared.row.Term.{Term}
use Rattle.ug_rows.specs.Boxes.{value_at}
use Rattle.ug_rows.specs.Rows.{Keeps, sum_at}
use Rattle.ug_problem.specs.Instances.{AreTerms, Instance, root_of}
use Rattle.ug_problem.specs.Limits.{AreSmall, IsNarrow}
use Rattle.ug_problem.specs.Better.{IsGood}
use Rattle.ug_surrogate.specs.declared.implying.ImpliedError.{ImpliedError}
use Rattle.ug_surrogate.specs.declared.implying.ImpliedError.TheVariants.{Memory, TooBig, TooWide}
use Rattle.ug_surrogate.specs.declared.multipliers.Multipliers.{Multipliers}
use Rattle.ug_surrogate.specs.Columns.{WeightedTerms, constant_of, factor_of, parts_of}
use Rattle.ug_surrogate.specs.Magnitudes.{IsTooBig}
use Rattle.ug_surrogate.specs.Weights.{AreMultipliers, weighted_at}

-- the sum over the columns below n at x
abbrev pub columns_at : ℕ → List WeightedTerms → List ℤ → ℤ
columns_at zero parts x = pos 0
columns_at (suc n) parts x = columns_at n parts x +ℤ (factor_of n parts *ℤ value_at x n)

-- the terms are those of the columns below n in the weighted sum that have a coefficient
pub record AreColumnsBelow (p : Instance) (m : Multipliers) (n : ℕ) (terms : List Term) :
    Type 0 where
  pub formed : AreTerms n terms
  pub small : AreSmall terms
  pub sum : (x : List ℤ) → sum_at terms x ≡ columns_at n (parts_of p m) x

-- the greatest value below the cutoff, times the weight of the objective
abbrev pub most_under : ℕ → ℤ → ℤ
most_under d cutoff = pos d *ℤ (cutoff -ℤ pos 1)

-- the greatest sum of the columns under the cutoff
abbrev pub implied_high : Instance → Multipliers → ℤ → ℤ
implied_high p m cutoff = most_under m.d cutoff -ℤ constant_of p m

-- a row of the problem's columns, within its limits, that x satisfies exactly where the weighted
-- sum at x is at most the greatest value below the cutoff times the weight of the objective
pub record IsImplied (p : Instance) (m : Multipliers) (cutoff : ℤ) (row : Row) : Type 0 where
  pub terms : AreTerms (length p.columns) row.terms
  pub narrow : IsNarrow row
  pub keeps : (x : List ℤ) → Keeps row x
      ↔ (weighted_at p m x ≤ℤ most_under m.d cutoff)

-- a coefficient is above 10^24
pub record IsWideColumn (p : Instance) (m : Multipliers) : Type 0 where
  pub column : ℕ
  pub there : column < length p.columns
  pub wide : 10 ^ 24 < unsigned_abs (factor_of column (parts_of p m))

-- a coefficient is above 10^24, or the side above 10^37
abbrev pub IsWide : Instance → Multipliers → ℤ → Type 0
IsWide p m cutoff = IsWideColumn p m ⊎ (10 ^ 37 < unsigned_abs (implied_high p m cutoff))

-- why there is no such row
abbrev pub IsNotImplied : Instance → Multipliers → ℤ → ImpliedError → Type 0
IsNotImplied p m cutoff Memory = Unit {0}
IsNotImplied p m cutoff (TooBig told) = IsTooBig p m (root_of p) told
IsNotImplied p m cutoff TooWide = IsWide p m cutoff

-- each feasible point with a value below the cutoff satisfies the row
abbrev pub ImpliedIsKept : Type 0
ImpliedIsKept = (p : Instance) (m : Multipliers) (cutoff : ℤ) (row : Row) → AreMultipliers p m
    → IsImplied p m cutoff row → (x : List ℤ) → IsGood p (Some cutoff) x → Keeps row x

-- the term of column j cannot be added, if not for memory: its coefficient is too large
abbrev pub IsColumnError : Instance → Multipliers → ℕ → ImpliedError → Type 0
IsColumnError p m j Memory = Unit {0}
IsColumnError p m j (TooBig told) = ⊥
IsColumnError p m j TooWide = 10 ^ 24 < unsigned_abs (factor_of j (parts_of p m))

-- the terms cannot be had, if not for memory: a coefficient is too large
abbrev pub HasWideColumn : Instance → Multipliers → ImpliedError → Type 0
HasWideColumn p m Memory = Unit {0}
HasWideColumn p m (TooBig told) = ⊥
HasWideColumn p m TooWide = IsWideColumn p m
