-- Which column of a box is branched on, at which value, and what its branches are.
use Rattle.std.specs.Prelude.{◌≡◌, ◌↔◌, ℕ, ℤ, pos, ◌+ℤ◌, ◌-ℤ◌, ◌*ℤ◌, ◌<◌, ◌≤◌, ◌≤ℤ◌, ◌<ℤ◌, ◌⊎◌}
use Rattle.std.specs.Prelude.{List, length, slice_set, Option, Some, None}
use Rattle.ug_rows.specs.declared.area.Interval.{Interval}
use Rattle.ug_rows.specs.Boxes.{IsInside, IsBelow, interval_at}
use Rattle.ug_branch.specs.declared.params.Params.{Params}
use Rattle.ug_branch.specs.declared.params.Pick.{Pick}
use Rattle.ug_branch.specs.declared.params.Pick.TheVariants.{Place, Width}
use Rattle.ug_branch.specs.declared.params.End.{End}
use Rattle.ug_branch.specs.declared.params.End.TheVariants.{Lowest, Highest}
use Rattle.ug_branch.specs.declared.choice.Branch.{Branch}

-- how far an interval's high is above its low
abbrev pub width_of : Interval → ℤ
width_of side = side.high -ℤ side.low

-- the width of column c
abbrev pub width_at : List Interval → ℕ → ℤ
width_at area c = width_of (interval_at area c)

-- column c of the box is open: its low is below its high
pub record IsOpen (area : List Interval) (c : ℕ) : Type 0 where
  pub there : c < length area
  pub open_ : (interval_at area c).low <ℤ (interval_at area c).high

-- none of the first n columns of the box is open
abbrev pub AreClosed : ℕ → List Interval → Type 0
AreClosed n area = (j : ℕ) → j < n → (interval_at area j).high ≤ℤ (interval_at area j).low

-- no column of the box is open
abbrev pub HasNoneOpen : List Interval → Type 0
HasNoneOpen area = (j : ℕ) → j < length area → (interval_at area j).high ≤ℤ (interval_at area j).low

-- column c is nearer to the end that wins than column k, or is k
abbrev pub IsNearer : End → ℕ → ℕ → Type 0
IsNearer Lowest c k = c ≤ k
IsNearer Highest c k = k ≤ c

-- column c is as wide as column k, and nearer to the end that wins if k is as wide as c
pub record IsWider (end : End) (area : List Interval) (c k : ℕ) : Type 0 where
  pub wide : width_at area k ≤ℤ width_at area c
  pub tie : width_at area k ≡ width_at area c → IsNearer end c k

-- column c is ahead of column k by this measure and end, or is k
abbrev pub IsAheadBy : Pick → End → List Interval → ℕ → ℕ → Type 0
IsAheadBy Place end area c k = IsNearer end c k
IsAheadBy Width end area c k = IsWider end area c k

-- column c is ahead of column k, or is k
abbrev pub IsAhead : Params → List Interval → ℕ → ℕ → Type 0
IsAhead params area c k = IsAheadBy params.pick params.end area c k

-- each column is ahead of all those behind it, whatever the box
abbrev pub IsFirstAhead : Params → Type 0
IsFirstAhead params = (area : List Interval) (c k : ℕ) → c ≤ k → IsAhead params area c k

-- the value is half of the sum of the interval's low and high, rounded down
pub record IsMiddle (side : Interval) (middle : ℤ) : Type 0 where
  pub low : (pos 2 *ℤ middle) ≤ℤ (side.low +ℤ side.high)
  pub high : (side.low +ℤ side.high) <ℤ ((pos 2 *ℤ middle) +ℤ pos 2)

-- the column is open and ahead of each open one, and the value is its middle
pub record IsChosen (params : Params) (area : List Interval) (branch : Branch) : Type 0 where
  pub open_ : IsOpen area branch.column
  pub ahead : (k : ℕ) → IsOpen area k → IsAhead params area branch.column k
  pub middle : IsMiddle (interval_at area branch.column) branch.middle

-- among the first n columns, c is open and ahead of each open one
pub record IsBestOf (params : Params) (area : List Interval) (n c : ℕ) : Type 0 where
  pub below : c < n
  pub open_ : IsOpen area c
  pub ahead : (k : ℕ) → k < n → IsOpen area k → IsAhead params area c k

-- among the first n columns, the best is this one, or none is open
abbrev pub IsBest : Params → List Interval → ℕ → Option ℕ → Type 0
IsBest params area n None = (j : ℕ) → j < n → (interval_at area j).high ≤ℤ (interval_at area j).low
IsBest params area n (Some c) = IsBestOf params area n c

-- the box with the branch's column up to its middle
abbrev pub lower_half : List Interval → Branch → List Interval
lower_half area branch =
    slice_set area branch.column
    (record { low = (interval_at area branch.column).low; high = branch.middle })

-- the box with the branch's column from the value after its middle
abbrev pub upper_half : List Interval → Branch → List Interval
upper_half area branch =
    slice_set area branch.column
    (record { low = branch.middle +ℤ pos 1; high = (interval_at area branch.column).high })

-- column c of the box has a value
abbrev pub HasValue : List Interval → ℕ → Type 0
HasValue area c = (interval_at area c).low ≤ℤ (interval_at area c).high

-- the two branches of a box: each of its points is in one of them and in one alone, and each is a
-- narrower box
pub record AreHalves (area : List Interval) (branch : Branch) : Type 0 where
  pub halves : (x : List ℤ)
      → IsInside area x
      ↔ (IsInside (lower_half area branch) x ⊎ IsInside (upper_half area branch) x)
  pub apart : (x : List ℤ) → IsInside (lower_half area branch) x
      → IsInside (upper_half area branch) x → ⊥
  pub lower : IsBelow (lower_half area branch) area
  pub upper : IsBelow (upper_half area branch) area
  pub lower_has : HasValue (lower_half area branch) branch.column
  pub upper_has : HasValue (upper_half area branch) branch.column
