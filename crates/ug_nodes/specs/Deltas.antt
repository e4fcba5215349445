-- Boxes, each as what it is against the one before it.
use Rattle.std.specs.Prelude.{◌≡◌, ◌≢◌, ℕ, ◌<◌, ◌≤◌, ◌^◌, List, [], ◌∷◌, length, take, slice_index_or}
use Rattle.ug_rows.specs.declared.area.Interval.{Interval}
use Rattle.ug_nodes.specs.declared.change.Change.{Change}
use Rattle.ug_nodes.specs.declared.delta.Delta.{Delta}
use Rattle.ug_nodes.specs.declared.delta.Delta.TheVariants.{Changed, Whole}
use Rattle.ug_nodes.specs.Changes.{IsRising, Tell, area_by}

-- changes may say what the one box is against the other: it is as wide, and not too wide
pub record IsNear (before area : List Interval) : Type 0 where
  pub width : length area ≡ length before
  pub few : length before ≤ 10 ^ 4

-- the box behind another
abbrev pub after : List Interval → Delta → List Interval
after before (Whole area) = area
after before (Changed changes) = area_by before changes

-- the changes rise, and say how the box that they make differs from the one before
pub record AreDifferences (before : List Interval) (changes : List Change) : Type 0 where
  pub few : length before ≤ 10 ^ 4
  pub rising : IsRising changes
  pub tell : Tell before changes (area_by before changes)

-- it is what some box is against this one: changes where they may say it. So it is the only one
abbrev pub IsDelta : List Interval → Delta → Type 0
IsDelta before (Whole area) = ¬ IsNear before area
IsDelta before (Changed changes) = AreDifferences before changes

-- the boxes, each behind the one before it, and the first behind this one
abbrev pub boxes_behind : List Interval → List Delta → List (List Interval)
boxes_behind before [] = []
boxes_behind before (delta ∷ deltas) =
    after before delta ∷ boxes_behind (after before delta) deltas

-- the last of them; this one, where there is none
abbrev pub last_behind : List Interval → List Delta → List Interval
last_behind before [] = before
last_behind before (delta ∷ deltas) = last_behind (after before delta) deltas

-- each is what its box is against the one before
abbrev pub AreDeltas : List Interval → List Delta → Type 0
AreDeltas before [] = Unit {0}
AreDeltas before (delta ∷ deltas) = IsDelta before delta × AreDeltas (after before delta) deltas

-- delta k; the box without columns, where there is none
abbrev pub delta_at : List Delta → ℕ → Delta
delta_at deltas k = slice_index_or deltas k (Whole [])

-- the first this many are the same, and the next, if there is one, is another
pub record IsFork (deltas others : List Delta) (count : ℕ) : Type 0 where
  pub below : count ≤ length others
  pub same : take count deltas ≡ take count others
  pub next : count < length others → delta_at deltas count ≢ delta_at others count
