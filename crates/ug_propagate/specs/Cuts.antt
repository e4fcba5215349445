-- What a bound makes of one column of a box.
use Rattle.std.specs.Prelude.{◌≡◌, ℕ, ℤ, pos, negsuc, ◌+ℤ◌, ◌-ℤ◌, ◌<ℤ◌, List, slice_set}
use Rattle.std.specs.Int.{int_div_euclid}
use Rattle.ug_rows.specs.declared.area.Interval.{Interval}
use Rattle.ug_rows.specs.declared.sums.Extreme.{Extreme}
use Rattle.ug_rows.specs.declared.sums.Extreme.TheVariants.{Least, Greatest}
use Rattle.ug_rows.specs.Boxes.{IsClosedWithin}
use Rattle.ug_propagate.specs.declared.cut.Cut.{Cut}
use Rattle.ug_propagate.specs.declared.cut.Cut.TheVariants.{Whole, Nothing, To}
use Rattle.ug_propagate.specs.declared.tight.Tight.{Tight}
use Rattle.ug_propagate.specs.declared.tight.Tight.TheVariants.{Kept, Empty}
use Rattle.ug_propagate.specs.declared.tight.Reason.{Reason}

-- the rest of the box if this is left of column j
abbrev pub cut_of : Reason → ℕ → List Interval → Cut → Tight
cut_of reason j area Whole = Kept area
cut_of reason j area Nothing = Empty reason
cut_of reason j area (To side) = Kept (slice_set area j side)

-- the rest is within the interval
abbrev pub IsInnerCut : Interval → Cut → Type 0
IsInnerCut side Whole = Unit {0}
IsInnerCut side Nothing = Unit {0}
IsInnerCut side (To inner) = IsClosedWithin inner side

-- this many whole steps of a size lie within the slack, fewer than the interval is wide
pub record AreSteps (slack : ℤ) (size : ℕ) (side : Interval) (steps : ℕ) : Type 0 where
  pub quotient : pos steps ≡ int_div_euclid slack (pos size)
  pub few : pos steps <ℤ (side.high -ℤ side.low)

-- the values up to this many above the low, and those down to this many below the high
abbrev pub up_from : Interval → ℕ → Interval
up_from side steps = record { low = side.low; high = side.low +ℤ pos steps }

abbrev pub down_from : Interval → ℕ → Interval
down_from side steps = record { low = side.high -ℤ pos steps; high = side.high }

-- the values at most this many steps from the end at which the product with the coefficient is the
-- least, or the greatest
abbrev pub near_end : Extreme → ℤ → Interval → ℕ → Interval
near_end Least (pos _) side steps = up_from side steps
near_end Least (negsuc _) side steps = down_from side steps
near_end Greatest (pos _) side steps = down_from side steps
near_end Greatest (negsuc _) side steps = up_from side steps
