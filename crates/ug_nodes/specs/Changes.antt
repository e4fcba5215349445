-- A box as its changes against the root's box.
use Rattle.std.specs.Prelude.{◌≡◌, ◌≢◌, ℕ, pos, ◌<◌, List, [], ◌∷◌, length, slice_index_or}
use Rattle.std.specs.Prelude.{slice_set}
use Rattle.ug_rows.specs.declared.area.Interval.{Interval}
use Rattle.ug_rows.specs.Boxes.{IsClosedWithin, interval_at}
use Rattle.ug_nodes.specs.declared.change.Change.{Change}
use Rattle.ug_nodes.specs.declared.spelling.AreaError.{AreaError}
use Rattle.ug_nodes.specs.declared.spelling.AreaError.TheVariants.{Memory, Outside}

-- a change that stands for one that is not there
abbrev pub no_change : Change
no_change = record { column = 0; low = pos 0; high = pos 0 }

-- change k
abbrev pub change_at : List Change → ℕ → Change
change_at changes k = slice_index_or changes k no_change

-- the bounds that the change gives its column
abbrev pub change_bounds : Change → Interval
change_bounds change = record { low = change.low; high = change.high }

-- the box that the changes make of the root's: each is written into its column
abbrev pub area_by : List Interval → List Change → List Interval
area_by root [] = root
area_by root (change ∷ changes) =
    area_by (slice_set root change.column (change_bounds change)) changes

-- the columns rise strictly
abbrev pub IsRising : List Change → Type 0
IsRising changes =
    (i k : ℕ) → i < k → k < length changes
    → (change_at changes i).column < (change_at changes k).column

-- the column of each change is one of this many
abbrev pub AreThere : ℕ → List Change → Type 0
AreThere width changes = (k : ℕ) → k < length changes → (change_at changes k).column < width

-- some change is of column j
abbrev pub IsListed : List Change → ℕ → Type 0
IsListed changes j = (k : ℕ) × (k < length changes) × ((change_at changes k).column ≡ j)

-- the change is a difference to the root: its column is there, and has other bounds in the root
pub record IsDifference (root : List Interval) (change : Change) : Type 0 where
  pub there : change.column < length root
  pub other : change_bounds change ≢ interval_at root change.column

-- the changes say how the box differs from the root's: it has their bounds, else the root's
pub record Tell (root : List Interval) (changes : List Change) (area : List Interval) : Type 0 where
  pub width : length area ≡ length root
  pub each : (k : ℕ) → k < length changes → IsDifference root (change_at changes k)
  pub changed : (k : ℕ) → k < length changes
      → interval_at area (change_at changes k).column ≡ change_bounds (change_at changes k)
  pub kept : (j : ℕ) → j < length root → (IsListed changes j → ⊥)
      → interval_at area j ≡ interval_at root j

-- the change is one of a box below the root: a difference with closed bounds within the root's
pub record IsChangeOf (root : List Interval) (change : Change) : Type 0 where
  pub differs : IsDifference root change
  pub within : IsClosedWithin (change_bounds change) (interval_at root change.column)

-- each change is one of a box below the root
abbrev pub AreChangesOf : List Interval → List Change → Type 0
AreChangesOf root changes = (k : ℕ) → k < length changes → IsChangeOf root (change_at changes k)

-- the changes are those of a box below the root, and say how this box differs from the root's
pub record Spells (root : List Interval) (changes : List Change) (area : List Interval)
    : Type 0 where
  pub valid : AreChangesOf root changes
  pub told : Tell root changes area

-- the first change that belongs to no box below the root is of this column
pub record IsFirstBad (root : List Interval) (changes : List Change) (column : ℕ) : Type 0 where
  pub at : ℕ
  pub there : at < length changes
  pub here : (change_at changes at).column ≡ column
  pub bad : IsChangeOf root (change_at changes at) → ⊥
  pub before : (k : ℕ) → k < at → IsChangeOf root (change_at changes k)

-- why no box is made: a change belongs to no box below the root, or all do and memory ran out
abbrev pub IsAreaRefused : List Interval → List Change → AreaError → Type 0
IsAreaRefused root changes Memory = AreChangesOf root changes
IsAreaRefused root changes (Outside column) = IsFirstBad root changes column
