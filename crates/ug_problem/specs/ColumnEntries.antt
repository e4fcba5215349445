-- The entries of a column: its rows and coefficients. The objective is the row behind the last.
use Rattle.std.specs.Prelude.{◌≡◌, ℕ, ◌+◌, ◌<◌, ◌≤◌, List, [], ◌∷◌, ◌++◌, length, map}
use Rattle.std.specs.Prelude.{slice_index_or, nat_eq, if◌then◌else◌}
use Rattle.ug_rows.specs.declared.row.Term.{Term}
use Rattle.ug_rows.specs.Rows.{IsAmong, no_term}
use Rattle.ug_problem.specs.declared.column.NamedRow.{NamedRow}
use Rattle.ug_problem.specs.declared.entries.ColumnEntry.{ColumnEntry}
use Rattle.ug_problem.specs.Instances.{Instance}

-- the terms of each row
abbrev pub terms_of_rows : List NamedRow → List (List Term)
terms_of_rows rows = map (λ (named : NamedRow). named.row.terms) rows

-- the terms of each row, and behind them those of the objective
abbrev pub all_terms : Instance → List (List Term)
all_terms p = terms_of_rows p.rows ++ p.objective.terms ∷ []

-- the terms of row r
abbrev pub terms_of : Instance → ℕ → List Term
terms_of p r = slice_index_or (all_terms p) r []

-- a standing that stands for one that is not there
abbrev pub no_entry : ColumnEntry
no_entry = record { row = 0; factor = no_term.factor }

-- standing k
abbrev pub entry_at : List ColumnEntry → ℕ → ColumnEntry
entry_at entries k = slice_index_or entries k no_entry

-- the term that a standing of column j says
abbrev pub term_of : ℕ → ColumnEntry → Term
term_of j entry = record { column = j; factor = entry.factor }

-- the entries of column j: the rows rise, each has this term, and each row with a term of the
-- column is there
pub record AreColumnEntries (p : Instance) (j : ℕ) (entries : List ColumnEntry) : Type 0 where
  pub rising : (i k : ℕ) → i < k → k < length entries
      → (entry_at entries i).row < (entry_at entries k).row
  pub within : (k : ℕ) → k < length entries → (entry_at entries k).row ≤ length p.rows
  pub each : (k : ℕ) → k < length entries
      → IsAmong (term_of j (entry_at entries k)) (terms_of p (entry_at entries k).row)
  pub all : (r : ℕ) (t : Term) → IsAmong t (terms_of p r) → t.column ≡ j
      → (k : ℕ) × (k < length entries) × ((entry_at entries k).row ≡ r)

-- the entries of column j in row r with these terms
abbrev pub entries_in : ℕ → ℕ → List Term → List ColumnEntry
entries_in j r [] = []
entries_in j r (t ∷ ts) =
    (if nat_eq t.column j
    then record { row = r; factor = t.factor } ∷ entries_in j r ts
    else entries_in j r ts)

-- the entries of column j in rows with these terms, the first of them row r
abbrev pub entries_over : ℕ → ℕ → List (List Term) → List ColumnEntry
entries_over j r [] = []
entries_over j r (ts ∷ rows) = entries_in j r ts ++ entries_over j (r + 1) rows

-- the standings of column j
abbrev pub entries_at : List (List ColumnEntry) → ℕ → List ColumnEntry
entries_at lists j = slice_index_or lists j []

-- each column's standings so far are those in the rows so far
pub record AreGathered (rows : List (List Term)) (columns : ℕ) (lists : List (List ColumnEntry)) :
    Type 0 where
  pub width : length lists ≡ columns
  pub each : (j : ℕ) → j < columns → entries_at lists j ≡ entries_over j 0 rows

-- each column's standings are kept
pub record AreKept (p : Instance) (lists : List (List ColumnEntry)) : Type 0 where
  pub width : length lists ≡ length p.columns
  pub each : (j : ℕ) → j < length p.columns → AreColumnEntries p j (entries_at lists j)
