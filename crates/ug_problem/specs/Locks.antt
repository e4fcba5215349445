-- Which rows lose slack where an end of a column goes inwards.
use Rattle.std.specs.Prelude.{◌≡◌, ℕ, ℤ, pos, negsuc, ◌<◌, ◌≤◌, ◌⊎◌, List, [], length, IsSome}
use Rattle.std.specs.Prelude.{slice_index_or}
use Rattle.ug_problem.specs.declared.column.NamedRow.{NamedRow}
use Rattle.ug_problem.specs.declared.locks.Inward.{Inward}
use Rattle.ug_problem.specs.declared.locks.Locks.{Locks}
use Rattle.ug_problem.specs.declared.locks.Inward.TheVariants.{Up, Down}
use Rattle.ug_problem.specs.declared.entries.ColumnEntry.{ColumnEntry}
use Rattle.ug_problem.specs.Instances.{Instance, no_row}
use Rattle.ug_problem.specs.ColumnEntries.{AreColumnEntries, entry_at, entries_at}

-- the row has a high side, or is the objective, whose high side is a cutoff
abbrev pub HasHighSide : List NamedRow → ℕ → Type 0
HasHighSide rows r = (length rows ≤ r) ⊎ IsSome (slice_index_or rows r no_row).row.high

-- the row has a low side
abbrev pub HasLowSide : List NamedRow → ℕ → Type 0
HasLowSide rows r = (r < length rows) × IsSome (slice_index_or rows r no_row).row.low

-- row r, in which a column has this coefficient, loses slack under one of its sides if the end of
-- the column is tightened
abbrev pub IsLock : Inward → List NamedRow → ℕ → ℤ → Type 0
IsLock Up rows r (pos n) = HasHighSide rows r
IsLock Up rows r (negsuc n) = HasLowSide rows r
IsLock Down rows r (pos n) = HasLowSide rows r
IsLock Down rows r (negsuc n) = HasHighSide rows r

-- row i of the list
abbrev pub listed_at : List ℕ → ℕ → ℕ
listed_at list i = slice_index_or list i 0

-- row r is in the list
abbrev pub IsListed : List ℕ → ℕ → Type 0
IsListed list r = (i : ℕ) × (i < length list) × (listed_at list i ≡ r)

-- no standing is of a row behind the objective
abbrev pub AreWithin : List NamedRow → List ColumnEntry → Type 0
AreWithin rows entries = (k : ℕ) → k < length entries → (entry_at entries k).row ≤ length rows

-- of the first n standings each whose row loses slack is listed, and no row behind the objective is
pub record AreLocksTo (inward : Inward) (rows : List NamedRow) (entries : List ColumnEntry) (n : ℕ)
    (list : List ℕ) : Type 0 where
  pub within : (i : ℕ) → i < length list → listed_at list i ≤ length rows
  pub all : (k : ℕ) → k < n
      → IsLock inward rows (entry_at entries k).row (entry_at entries k).factor
      → IsListed list (entry_at entries k).row

-- of all standings
abbrev pub AreLocks : Inward → List NamedRow → List ColumnEntry → List ℕ → Type 0
AreLocks inward rows entries list = AreLocksTo inward rows entries (length entries) list

-- the list of column j
abbrev pub rows_in : List (List ℕ) → ℕ → List ℕ
rows_in lists j = slice_index_or lists j []

-- no standing of any column is of a row behind the objective
abbrev pub AreAllWithin : List NamedRow → List (List ColumnEntry) → Type 0
AreAllWithin rows entries = (j : ℕ) → j < length entries → AreWithin rows (entries_at entries j)

-- of the standings of each of the first n columns
pub record AreFirstLocks (inward : Inward) (rows : List NamedRow) (entries : List (List ColumnEntry))
    (n : ℕ) (lists : List (List ℕ)) : Type 0 where
  pub width : length lists ≡ n
  pub each : (j : ℕ) → j < n → AreLocks inward rows (entries_at entries j) (rows_in lists j)

-- of those of each column
abbrev pub AreAllLocks : Inward → List NamedRow → List (List ColumnEntry) → List (List ℕ) → Type 0
AreAllLocks inward rows entries lists = AreFirstLocks inward rows entries (length entries) lists

-- the lists of both ends
pub record AreKeptLocks (rows : List NamedRow) (entries : List (List ColumnEntry)) (locks : Locks) :
    Type 0 where
  pub ups : AreAllLocks Up rows entries locks.ups
  pub downs : AreAllLocks Down rows entries locks.downs

-- the rows that lose slack where this end of column j goes inwards, of those in which it stands
pub record AreLocksOf (p : Instance) (j : ℕ) (inward : Inward) (list : List ℕ) : Type 0 where
  pub entries : List ColumnEntry
  pub are : AreColumnEntries p j entries
  pub locks : AreLocks inward p.rows entries list
