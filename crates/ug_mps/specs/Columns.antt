-- What the columns have so far.
use Rattle.std.specs.Prelude.{◌≡◌, ℕ, not, Bool, true, false, List, ◌∷◌, length, Contains, map}
use Rattle.std.specs.Prelude.{Option, None, MatchOption, slice_index_or}
use Rattle.ug_drafts.specs.declared.column.ColumnDraft.{ColumnDraft}
use Rattle.ug_mps.specs.declared.draft.columns.ColumnPlace.{ColumnPlace}
use Rattle.ug_mps.specs.Entries.{Pair, Entry, column}
use Rattle.ug_mps.specs.Good.{Good}
use Rattle.ug_mps.specs.Faults.{is_begun_again}
use Rattle.ug_mps.specs.History.{ColumnBegun, columns_of, goes_on, place_of, is_integer_on, low_set}
use Rattle.ug_mps.specs.History.{high_set}
use Rattle.ug_mps.specs.Stated.{is_integer}

-- the columns with their names
pub record KeptColumns : Type 0 where
  pub names : List (List ℕ)
  pub drafts : List ColumnDraft

-- what a column has so far
abbrev pub column_so_far : List Entry → ColumnBegun → ColumnDraft
column_so_far h c = record {
  line = c.line;
  integer = is_integer h c;
  low = low_set h c.name;
  high = high_set h c.name;
}

-- the columns are those of the history
pub record AreColumns (h : List Entry) (columns : KeptColumns) : Type 0 where
  pub names : columns.names ≡ map (λ (c : ColumnBegun). c.name) (columns_of h)
  pub drafts : columns.drafts ≡ map (column_so_far h) (columns_of h)

-- a column that begins in a line
abbrev pub new_column : ℕ → Bool → ColumnDraft
new_column line integer = record { line = line; integer = integer; low = None; high = None }

-- the column at a place
abbrev pub column_at : List ColumnDraft → ℕ → ColumnDraft
column_at drafts at = slice_index_or drafts at (new_column 0 false)

-- the place of the column of a line: none if the column began before another one
abbrev pub FindsPlace : List ℕ → KeptColumns → Option ColumnPlace → Type 0
FindsPlace name columns place = (h : List Entry) → AreColumns h columns → MatchOption place
    (is_begun_again h name ≡ true)
    (λ p. (is_begun_again h name ≡ false) × (p.at ≡ place_of h name)
    × (p.new ≡ not (goes_on h name)))

-- the name is new, and the place is behind the names
pub record IsNew (names : List (List ℕ)) (name : List ℕ) (at : ℕ) : Type 0 where
  pub gone : ¬ Contains names name
  pub behind : at ≡ length names

-- a line of a column was taken, where a new column begins
abbrev pub OpensColumn : ℕ → List ℕ → Bool → Bool → KeptColumns → KeptColumns → Type 0
OpensColumn line name integer new before after = (h : List Entry) (pairs : List Pair) → Good h
    → AreColumns h before
    → is_begun_again h name ≡ false → new ≡ not (goes_on h name) → integer ≡ is_integer_on h
    → AreColumns (column line name pairs ∷ h) after
