-- What the functions for some of the columns or changes are given, and what they answer.
use Rattle.std.specs.Prelude.{◌≡◌, ◌≢◌, ℕ, ◌<◌, ◌≤◌, List, length}
use Rattle.ug_rows.specs.declared.area.Interval.{Interval}
use Rattle.ug_rows.specs.declared.row.Term.{Term}
use Rattle.ug_rows.specs.Boxes.{interval_at}
use Rattle.ug_rows.specs.Rows.{term_at}
use Rattle.ug_nodes.specs.declared.change.Change.{Change}
use Rattle.ug_nodes.specs.Changes.{IsRising, IsListed, IsDifference, change_at, change_bounds}
use Rattle.ug_nodes.specs.Outside.{ColumnFits}

-- the change of a column to these bounds
abbrev pub change_with : ℕ → Interval → Change
change_with column bounds = record { column = column; low = bounds.low; high = bounds.high }

-- the changes rise, and say how the first n columns of the box differ from the root's
pub record IsToldTo (n : ℕ) (root area : List Interval) (changes : List Change) : Type 0 where
  pub rising : IsRising changes
  pub below : (k : ℕ) → k < length changes → (change_at changes k).column < n
  pub each : (k : ℕ) → k < length changes → IsDifference root (change_at changes k)
  pub changed : (k : ℕ) → k < length changes
      → interval_at area (change_at changes k).column ≡ change_bounds (change_at changes k)
  pub kept : (j : ℕ) → j < n → (IsListed changes j → ⊥) → interval_at area j ≡ interval_at root j

-- each column before the bound fits; before it are the first i changes and n given, and no
-- others
pub record ArePassed (root : List Interval) (told changes : List Change) (i n : ℕ) : Type 0 where
  pub bound : ℕ
  pub fit : (j : ℕ) → j < bound → ColumnFits root told changes j
  pub first : (k : ℕ) → k < i → (change_at changes k).column < bound
  pub later : (k : ℕ) → i ≤ k → k < length changes → bound ≤ (change_at changes k).column
  pub first_told : (k : ℕ) → k < n → (change_at told k).column < bound
  pub later_told : (k : ℕ) → n ≤ k → k < length told → bound ≤ (change_at told k).column

-- the columns of the terms rise strictly
abbrev pub DoColumnsRise : List Term → Type 0
DoColumnsRise terms =
    (i k : ℕ) → i < k → k < length terms → (term_at terms i).column < (term_at terms k).column

-- the terms from this place on are of columns from this one on, and no other is
pub record IsColumnPlace (terms : List Term) (column at : ℕ) : Type 0 where
  pub there : at ≤ length terms
  pub ahead : (k : ℕ) → k < at → (term_at terms k).column < column
  pub behind : (k : ℕ) → at ≤ k → k < length terms → column ≤ (term_at terms k).column
