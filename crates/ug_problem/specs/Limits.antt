-- The limits of a problem: how many columns, rows and terms, and how large its numbers.
use Rattle.std.specs.Prelude.{ℕ, ◌+◌, ◌<◌, ◌≤◌, ◌^◌, List, length, slice_index_or, sum_by, All}
use Rattle.std.specs.Prelude.{Some, None, IfSome, unsigned_abs}
use Rattle.ug_rows.specs.declared.row.Row.{Row}
use Rattle.ug_rows.specs.declared.row.Term.{Term}
use Rattle.ug_rows.specs.declared.row.Objective.{Objective}
use Rattle.ug_problem.specs.declared.column.NamedRow.{NamedRow}
use Rattle.ug_problem.specs.Instances.{Instance, IsFormed, no_row}
use Rattle.ug_problem.specs.declared.error.ProblemError.{ProblemError}
use Rattle.ug_problem.specs.declared.error.ProblemError.TheVariants.{Memory, TooMany, TooWide}

-- at most 10,000 columns, 10,000 rows, and 1,000,000 terms in all, the objective's among them
pub record FitsCounts (p : Instance) : Type 0 where
  pub columns : length p.columns ≤ 10 ^ 4
  pub rows : length p.rows ≤ 10 ^ 4
  pub terms : sum_by (λ (row : NamedRow). length row.row.terms) p.rows + length p.objective.terms
      ≤ 10 ^ 6

-- no coefficient is above 10^24
abbrev pub AreSmall : List Term → Type 0
AreSmall terms = All (λ (t : Term). unsigned_abs t.factor ≤ 10 ^ 24) terms

-- no coefficient of the row is above 10^24, and no side above 10^37
pub record IsNarrow (row : Row) : Type 0 where
  pub factors : AreSmall row.terms
  pub low : IfSome row.low (λ low. unsigned_abs low ≤ 10 ^ 37)
  pub high : IfSome row.high (λ high. unsigned_abs high ≤ 10 ^ 37)

-- no coefficient of the objective is above 10^24, and its constant is not above 10^37
pub record IsNarrowObjective (objective : Objective) : Type 0 where
  pub factors : AreSmall objective.terms
  pub constant : unsigned_abs objective.constant ≤ 10 ^ 37

-- the first r rows are narrow
abbrev pub FirstNarrow : List NamedRow → ℕ → Type 0
FirstNarrow rows r = (i : ℕ) → i < r → IsNarrow (slice_index_or rows i no_row).row

-- all rows below r are narrow
abbrev pub NarrowBelow : Instance → ℕ → Type 0
NarrowBelow p r = FirstNarrow p.rows r

-- r is the first row that is not narrow
pub record IsFirstWide (rows : List NamedRow) (r : ℕ) : Type 0 where
  pub there : r < length rows
  pub wide : ¬ IsNarrow (slice_index_or rows r no_row).row
  pub below : FirstNarrow rows r

-- what every problem is: well formed and within all limits
pub record IsProblem (p : Instance) : Type 0 where
  pub formed : IsFormed p
  pub counts : FitsCounts p
  pub rows : NarrowBelow p (length p.rows)
  pub objective : IsNarrowObjective p.objective

-- the counts and all rows are within the limits, and the objective is not
pub record HasWideObjective (p : Instance) : Type 0 where
  pub counts : FitsCounts p
  pub rows : NarrowBelow p (length p.rows)
  pub objective : ¬ IsNarrowObjective p.objective

-- the counts are within the limits, and r is the first row that is not
pub record HasWideRow (p : Instance) (r : ℕ) : Type 0 where
  pub counts : FitsCounts p
  pub row : IsFirstWide p.rows r

-- what p passes, if it is not for memory: a count, else the first row with a number too large, else
-- the objective
abbrev pub IsRefused : Instance → ProblemError → Type 0
IsRefused p Memory = Unit {0}
IsRefused p TooMany = ¬ FitsCounts p
IsRefused p (TooWide None) = HasWideObjective p
IsRefused p (TooWide (Some r)) = HasWideRow p r
