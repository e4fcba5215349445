-- When changes spell a box below the one that other changes spell, and in which column they do not.
use Rattle.std.specs.Prelude.{◌≡◌, ℕ, ◌<◌, List, length}
use Rattle.ug_rows.specs.declared.area.Interval.{Interval}
use Rattle.ug_rows.specs.Boxes.{IsBelow, IsNarrower, interval_at}
use Rattle.ug_nodes.specs.declared.change.Change.{Change}
use Rattle.ug_nodes.specs.Changes.{AreChangesOf, IsChangeOf, area_by, change_at}

-- the changes are those of a box below the root, and below the one that the given changes spell
pub record SpellBelow (root : List Interval) (told changes : List Change) : Type 0 where
  pub valid : AreChangesOf root changes
  pub below : IsBelow (area_by root changes) (area_by root told)

-- column j fits: a change of it is one of a box below the root, and its bounds narrower than
-- given
pub record ColumnFits (root : List Interval) (told changes : List Change) (j : ℕ) : Type 0 where
  pub valid : (k : ℕ) → k < length changes → (change_at changes k).column ≡ j
      → IsChangeOf root (change_at changes k)
  pub narrower : j < length root
      → IsNarrower (interval_at (area_by root changes) j) (interval_at (area_by root told) j)

-- the column is the least that does not fit
pub record IsFirstOutside (root : List Interval) (told changes : List Change) (column : ℕ)
    : Type 0 where
  pub outside : ColumnFits root told changes column → ⊥
  pub before : (j : ℕ) → j < column → ColumnFits root told changes j
