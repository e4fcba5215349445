-- Points and boxes. A point is the list of its values, a box the list of its intervals, one per
-- column.
use Rattle.std.specs.Prelude.{◌≡◌, ◌≢◌, ℕ, ℤ, pos, ◌<◌, ◌≤◌, ◌^◌, ◌≤ℤ◌, ◌<ℤ◌, ◌⊎◌, List, [], ◌∷◌}
use Rattle.std.specs.Prelude.{length, slice_index_or, unsigned_abs}
use Rattle.ug_rows.specs.declared.area.Interval.{Interval}

-- the value of column j
abbrev pub value_at : List ℤ → ℕ → ℤ
value_at x j = slice_index_or x j (pos 0)

-- an interval that stands for a column that is not there
abbrev pub no_interval : Interval
no_interval = record { low = pos 0; high = pos 0 }

-- the interval of column j
abbrev pub interval_at : List Interval → ℕ → Interval
interval_at area j = slice_index_or area j no_interval

-- the value is within the interval
pub record IsWithin (side : Interval) (value : ℤ) : Type 0 where
  pub low : side.low ≤ℤ value
  pub high : value ≤ℤ side.high

-- x lies in the box: it has one value per column, each within its interval
pub record IsInside (area : List Interval) (x : List ℤ) : Type 0 where
  pub width : length x ≡ length area
  pub each : (j : ℕ) → j < length area → IsWithin (interval_at area j) (value_at x j)

-- no interval of the box has its low above its high, so the box has a point
abbrev pub IsNonEmpty : List Interval → Type 0
IsNonEmpty area = (j : ℕ) → j < length area → (interval_at area j).low ≤ℤ (interval_at area j).high

-- some column has its low above its high, so the box has no point
abbrev pub IsCrossed : List Interval → Type 0
IsCrossed area = (j : ℕ) × (j < length area)
    × ((interval_at area j).high <ℤ (interval_at area j).low)

-- each column has one value
abbrev pub IsFixed : List Interval → Type 0
IsFixed area = (j : ℕ) → j < length area → (interval_at area j).low ≡ (interval_at area j).high

-- x lies in one of the boxes
abbrev pub IsInOne : List (List Interval) → List ℤ → Type 0
IsInOne [] x = ⊥
IsInOne (area ∷ boxes) x = IsInside area x ⊎ IsInOne boxes x

-- box k
abbrev pub box_at : List (List Interval) → ℕ → List Interval
box_at boxes k = slice_index_or boxes k []

-- both ends are at most 2^31 in absolute value, as i32 numbers are
pub record HasSmallEnds (side : Interval) : Type 0 where
  pub low : unsigned_abs side.low ≤ 2 ^ 31
  pub high : unsigned_abs side.high ≤ 2 ^ 31

-- the inner interval is within the outer, and has its low at most its high
pub record IsClosedWithin (inner outer : Interval) : Type 0 where
  pub low : outer.low ≤ℤ inner.low
  pub high : inner.high ≤ℤ outer.high
  pub some : inner.low ≤ℤ inner.high

-- the inner interval is within the outer, and has its low at most its high unless it is the outer
pub record IsNarrower (inner outer : Interval) : Type 0 where
  pub low : outer.low ≤ℤ inner.low
  pub high : inner.high ≤ℤ outer.high
  pub open_ : inner ≢ outer → inner.low ≤ℤ inner.high

-- the inner box is below the outer: as wide, and narrower in each column
pub record IsBelow (inner outer : List Interval) : Type 0 where
  pub width : length inner ≡ length outer
  pub each : (j : ℕ) → j < length outer → IsNarrower (interval_at inner j) (interval_at outer j)
