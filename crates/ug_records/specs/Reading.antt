-- A record read from left to right, up to the first field that is cut short or breaks a rule.
use Rattle.std.specs.Prelude.{ℕ, ℤ, ◌+◌, ◌-◌, ◌^◌, ◌&&◌, List, length, Result, Ok, Err, nat_lt}
use Rattle.std.specs.Prelude.{nat_le, ◌==◌, if◌then◌else◌, unsigned_abs}
use Rattle.ug_rows.specs.declared.row.Term.{Term}
use Rattle.ug_rows.specs.declared.row.Objective.{Objective}
use Rattle.ug_problem.specs.declared.column.Column.{Column}
use Rattle.ug_problem.specs.declared.column.NamedRow.{NamedRow}
use Rattle.ug_problem.specs.Instances.{Instance}
use Rattle.ug_fields.specs.Reading.{Reading, ◌>>=◌, small_at, count_at, unsigned_at, bound_at}
use Rattle.ug_fields.specs.Reading.{number_at, name_at, optional_at, many_at}

-- a column: its name and its bounds
unfoldable pub column_at : List ℕ → Reading Column
column_at bytes = do
  name ← name_at bytes
  low ← bound_at name.1
  high ← bound_at low.1
  Ok (record { name = name.0; low = low.0; high = high.0 }, high.1)

-- the column of a term: at least this and below the width
unfoldable pub place_at : ℕ → ℕ → List ℕ → Reading ℕ
place_at width least bytes = do
  column ← unsigned_at bytes
  if nat_le least column.0 && nat_lt column.0 width then Ok column else Err (length bytes)

-- a coefficient: a number of at most 10^24, and not 0
unfoldable pub factor_at : List ℕ → Reading ℤ
factor_at bytes = do
  factor ← number_at (10 ^ 24) bytes
  if nat_le 1 (unsigned_abs factor.0) then Ok factor else Err (length bytes)

-- a term: its column, behind that of the term before it, and its coefficient
unfoldable pub term_at : ℕ → ℕ → List ℕ → Reading Term
term_at width least bytes = do
  column ← place_at width least bytes
  factor ← factor_at column.1
  Ok (record { column = column.0; factor = factor.0 }, factor.1)

-- this many columns
abbrev pub columns_at : ℕ → List ℕ → Reading (List Column × Unit {0})
columns_at n bytes =
    many_at (λ (state : Unit {0}). column_at) (λ state (column : Column). state) n tt bytes

-- this many terms, each column behind the one before it
abbrev pub terms_from : ℕ → ℕ → List ℕ → Reading (List Term × ℕ)
terms_from width n bytes =
    many_at (λ least. term_at width least) (λ least (t : Term). t.column + 1) n 0 bytes

-- how many terms there are, of which this many may be, and they
unfoldable pub terms_at : ℕ → ℕ → List ℕ → Reading (List Term)
terms_at width room bytes = do
  n ← count_at room bytes
  terms ← terms_from width n.0 n.1
  Ok (terms.0.0, terms.1)

-- a row: its name, its sides and its terms
unfoldable pub row_at : ℕ → ℕ → List ℕ → Reading NamedRow
row_at width room bytes = do
  name ← name_at bytes
  low ← optional_at (10 ^ 37) name.1
  high ← optional_at (10 ^ 37) low.1
  terms ← terms_at width room high.1
  Ok (
    record { name = name.0; row = record { terms = terms.0; low = low.0; high = high.0 } },
    terms.1,
  )

-- this many rows, and how many terms may still be
abbrev pub rows_at : ℕ → ℕ → ℕ → List ℕ → Reading (List NamedRow × ℕ)
rows_at width room n bytes =
    many_at (row_at width) (λ room (row : NamedRow). room - length row.row.terms) n room bytes

-- the objective: its sense, its scale, its constant and its terms
unfoldable pub objective_at : ℕ → ℕ → List ℕ → Reading Objective
objective_at width room bytes = do
  sense ← small_at 0 1 bytes
  scale ← small_at 0 60 sense.1
  constant ← number_at (10 ^ 37) scale.1
  terms ← terms_at width room constant.1
  Ok (
    record { terms = terms.0; constant = constant.0; maximise = sense.0 == 1; scale = scale.0 },
    terms.1,
  )

-- columns, rows and objective
unfoldable pub parts_at : List ℕ → Reading Instance
parts_at bytes = do
  width ← count_at (10 ^ 4) bytes
  columns ← columns_at width.0 width.1
  height ← count_at (10 ^ 4) columns.1
  rows ← rows_at width.0 (10 ^ 6) height.0 height.1
  objective ← objective_at width.0 rows.0.1 rows.1
  Ok (record { columns = columns.0.0; rows = rows.0.0; objective = objective.0 }, objective.1)

-- a whole record: the parts of a problem, and nothing behind them
unfoldable pub record_at : List ℕ → Result Instance ℕ
record_at bytes = do
  parts ← parts_at bytes
  if length parts.1 == 0 then Ok parts.0 else Err (length parts.1)
