-- The parts of a problem, and how they are to be formed.
use Rattle.std.specs.Prelude.{◌≢◌, ℕ, pos, ◌<◌, ◌≤◌, ◌^◌, ◌⊎◌, List, [], length, slice_index_or}
use Rattle.std.specs.Prelude.{map, All, None, unsigned_abs}
use Rattle.ug_rows.specs.declared.area.Interval.{Interval}
use Rattle.ug_rows.specs.declared.row.Row.{Row}
use Rattle.ug_rows.specs.declared.row.Term.{Term}
use Rattle.ug_rows.specs.declared.row.Objective.{Objective}
use Rattle.ug_rows.specs.Rows.{term_at}
use Rattle.ug_problem.specs.declared.column.Column.{Column}
use Rattle.ug_problem.specs.declared.column.NamedRow.{NamedRow}

-- columns, rows and objective
pub record Instance : Type 0 where
  pub columns : List Column
  pub rows : List NamedRow
  pub objective : Objective

-- these columns, rows and objective
abbrev pub instance_of : List Column → List NamedRow → Objective → Instance
instance_of columns rows objective =
    record { columns = columns; rows = rows; objective = objective }

-- a row that stands for one that is not there
abbrev pub no_row : NamedRow
no_row = record { name = []; row = record { terms = []; low = None; high = None } }

-- row r
abbrev pub row_at : Instance → ℕ → Row
row_at p r = (slice_index_or p.rows r no_row).row

-- the bounds of a column
abbrev pub bounds_of : Column → Interval
bounds_of column = record { low = column.low; high = column.high }

-- the box of all bounds
abbrev pub root_of : Instance → List Interval
root_of p = map bounds_of p.columns

-- a byte that a word may hold: neither blank nor control
abbrev pub IsWordByte : ℕ → Type 0
IsWordByte b = ((33 ≤ b) × (b ≤ 126)) ⊎ (128 ≤ b)

-- a name: 1 to 255 bytes of words
pub record IsName (name : List ℕ) : Type 0 where
  pub some : 0 < length name
  pub short : length name ≤ 255
  pub bytes : All IsWordByte name

-- the terms' columns rise strictly and exist, and no coefficient is 0
pub record AreTerms (width : ℕ) (terms : List Term) : Type 0 where
  pub rising : (i k : ℕ) → i < k → k < length terms
      → (term_at terms i).column < (term_at terms k).column
  pub within : (k : ℕ) → k < length terms → (term_at terms k).column < width
  pub nonzero : (k : ℕ) → k < length terms → (term_at terms k).factor ≢ pos 0

-- a column has a name, and bounds of at most 10^9
pub record IsColumn (column : Column) : Type 0 where
  pub name : IsName column.name
  pub low : unsigned_abs column.low ≤ 10 ^ 9
  pub high : unsigned_abs column.high ≤ 10 ^ 9

-- a row has a name, and terms over the columns
pub record IsRow (width : ℕ) (row : NamedRow) : Type 0 where
  pub name : IsName row.name
  pub terms : AreTerms width row.row.terms

-- the parts are formed as a problem's are, whatever their counts and how large their numbers
pub record IsFormed (p : Instance) : Type 0 where
  pub columns : All IsColumn p.columns
  pub rows : All (IsRow (length p.columns)) p.rows
  pub objective : AreTerms (length p.columns) p.objective.terms
  pub scale : p.objective.scale ≤ 60
