-- A problem with more rows, which follow from its own, from a box and from a cutoff: a search of
-- the box for points with a value below the cutoff may satisfy it instead.
use Rattle.std.specs.Prelude.{◌≡◌, ◌++◌, ◌∷◌, [], ◌<◌, ◌≤◌, ◌≤ℤ◌, ℕ, ℤ, List, All, length, Option, Some, None}
use Rattle.std.specs.Prelude.{slice_index_or, slice_set}
use Rattle.ug_rows.specs.declared.area.Interval.{Interval}
use Rattle.ug_rows.specs.declared.row.Row.{Row}
use Rattle.ug_rows.specs.Boxes.{IsInside}
use Rattle.ug_rows.specs.Rows.{Keeps, value_of}
use Rattle.ug_problem.specs.declared.column.NamedRow.{NamedRow}
use Rattle.ug_problem.specs.Better.{IsGood}
use Rattle.ug_problem.specs.Feasible.{Feasible}
use Rattle.ug_problem.specs.Instances.{AreTerms, Instance, IsName, IsRow, no_row, row_at}

-- each good point of the box satisfies the row
abbrev pub IsKeptBy : Instance → List Interval → Option ℤ → Row → Type 0
IsKeptBy p area cutoff row = (x : List ℤ) → IsInside area x → IsGood p cutoff x → Keeps row x

-- a row over the problem's columns that each good point of the box satisfies
pub record IsFurtherRow (p : Instance) (area : List Interval) (cutoff : Option ℤ) (named : NamedRow)
    : Type 0 where
  pub formed : IsRow (length p.columns) named
  pub kept : IsKeptBy p area cutoff named.row

-- a sum with sides over the problem's columns that each good point of the box satisfies
pub record IsFurtherSum (p : Instance) (area : List Interval) (cutoff : Option ℤ) (row : Row)
    : Type 0 where
  pub formed : AreTerms (length p.columns) row.terms
  pub kept : IsKeptBy p area cutoff row

-- the rows over the problem's columns stand for the problem's own: each good point of the box
-- satisfies all of them, and a point that satisfies the row in the place of row r satisfies row r
pub record StandFor (p : Instance) (area : List Interval) (cutoff : Option ℤ)
    (rows : List NamedRow) : Type 0 where
  pub wide : length p.rows ≤ length rows
  pub each : All (IsFurtherRow p area cutoff) rows
  pub back : (r : ℕ) → r < length p.rows → (x : List ℤ)
      → Keeps (row_at (record p { rows = rows }) r) x → Keeps (row_at p r) x

-- a row that may take the place of row r: each point of the box that satisfies all rows satisfies
-- it, and a point that satisfies it satisfies row r
pub record IsInPlaceOf (p : Instance) (area : List Interval) (r : ℕ) (row : Row) : Type 0 where
  pub further : IsFurtherSum p area None row
  pub back : (x : List ℤ) → Keeps row x → Keeps (row_at p r) x

-- row r of the rows is this one, and the others stayed
abbrev pub IsPutAt : ℕ → Row → List NamedRow → List NamedRow → Type 0
IsPutAt r row old new =
    new ≡ slice_set old r (record (slice_index_or old r no_row) { row = row })

-- s has the columns and the objective of p; what is feasible in s is so in p, and each good point
-- of the box is feasible in s
pub record Follows (p : Instance) (area : List Interval) (cutoff : Option ℤ) (s : Instance)
    : Type 0 where
  pub columns : s.columns ≡ p.columns
  pub objective : s.objective ≡ p.objective
  pub back : (x : List ℤ) → Feasible s x → Feasible p x
  pub kept : (x : List ℤ) → IsInside area x → IsGood p cutoff x → Feasible s x

-- below the second cutoff lies the value of each good point of the box
abbrev pub IsCutoffOver : Instance → List Interval → Option ℤ → ℤ → Type 0
IsCutoffOver p area cutoff c = (x : List ℤ) → IsInside area x → IsGood p cutoff x → IsGood p (Some c) x

-- no point of the box has a greater value
abbrev pub IsAtMost : Instance → List Interval → ℤ → Type 0
IsAtMost p area most = (x : List ℤ) → IsInside area x → value_of p.objective x ≤ℤ most

-- the row follows the others, with some name
pub record IsPushed (sum : Row) (old new : List NamedRow) : Type 0 where
  pub named : NamedRow
  pub put : new ≡ old ++ named ∷ []
  pub row : named.row ≡ sum
  pub name : IsName named.name
