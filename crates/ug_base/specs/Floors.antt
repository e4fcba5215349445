-- The least of the floors of boxes.
use Rattle.std.specs.Prelude.{◌≡◌, ℕ, ℤ, pos, ◌<◌, ◌≤ℤ◌, List, [], ◌∷◌, map, slice_index_or, Option}
use Rattle.std.specs.Prelude.{Some, None}
use Rattle.ug_base.specs.declared.open_box.OpenBox.{OpenBox}
use Rattle.ug_base.specs.declared.open_boxes.Kept.{Kept}
use Rattle.ug_base.specs.Chains.{unsettled}
use Rattle.ug_base.specs.Tasks.{lesser_of}

-- the floors that are kept beside the boxes
abbrev pub floors_of : List OpenBox → List ℤ
floors_of open_boxes = map (λ (open_box : OpenBox). open_box.floor) open_boxes

-- number k
abbrev pub floor_at : List ℤ → ℕ → ℤ
floor_at floors k = slice_index_or floors k (pos 0)

-- among the first n numbers, one is this, and none is less
pub record IsLeastOf (floors : List ℤ) (n : ℕ) (low : ℤ) : Type 0 where
  pub at : ℕ
  pub there : at < n
  pub reached : floor_at floors at ≡ low
  pub least : (k : ℕ) → k < n → low ≤ℤ floor_at floors k

-- the same, or there is none yet
abbrev pub IsLeastSoFar : List ℤ → ℕ → Option ℤ → Type 0
IsLeastSoFar floors n None = n ≡ 0
IsLeastSoFar floors n (Some low) = IsLeastOf floors n low

-- the parts that are kept, without the least beside them
abbrev pub open_boxes_in : List Kept → List OpenBox
open_boxes_in kept = map (λ (one : Kept). one.open_box) kept

-- the part, and beside it the smaller of a floor, if there is one, and its own
abbrev pub with_least : Option ℤ → OpenBox → Kept
with_least before open_box = record { open_box = open_box; least = lesser_of before open_box.floor }

-- the parts, and beside each the smaller of the least before it, if there is one, and its own floor
abbrev pub renewed : Option ℤ → List OpenBox → List Kept
renewed before [] = []
renewed before (open_box ∷ open_boxes) =
    with_least before open_box ∷ renewed (Some (lesser_of before open_box.floor)) open_boxes

-- the least beside each part is the smaller of the least before it, if there is one, and its own
-- floor
abbrev pub AreLeasts : Option ℤ → List Kept → Type 0
AreLeasts before [] = Unit {0}
AreLeasts before (one ∷ kept) =
    (one.least ≡ lesser_of before one.open_box.floor) × AreLeasts (Some one.least) kept

-- the least beside the last part, or what was before the first
abbrev pub least_of : Option ℤ → List Kept → Option ℤ
least_of before [] = before
least_of before (one ∷ kept) = least_of (Some one.least) kept

-- the part, of which it is not known how its parent's rows rested, with the least beside it
abbrev pub unsettled_kept : Kept → Kept
unsettled_kept one = record one { open_box = unsettled one.open_box }
