-- Bounds: what amounts set, and what comes of it.
use Rattle.std.specs.Prelude.{◌≡◌, ℕ, ℤ, pos, ◌≤◌, ◌^◌, Bool, true, false, Option, Some, None}
use Rattle.std.specs.Prelude.{nat_le, unsigned_abs, option_and_then, unwrap_or, IfSome}
use Rattle.std.specs.Prelude.{if◌then◌else◌}
use Rattle.std.specs.Option.{option_map}
use Rattle.ug_problem.specs.declared.decimal.Decimal.{Decimal}
use Rattle.ug_problem.specs.Decimals.{IsDecimal}
use Rattle.ug_problem.specs.Fractions.{is_huge, floor_of, ceiling_of}
use Rattle.ug_drafts.specs.declared.bound.Bound.{Bound}
use Rattle.ug_drafts.specs.declared.bound.Bound.TheVariants.{Infinite, Finite}
use Rattle.ug_drafts.specs.declared.bound.Amount.{Amount}
use Rattle.ug_drafts.specs.declared.bound.Amount.TheVariants as amounts
use Rattle.ug_drafts.specs.declared.bound.BoundChange.{BoundChange}

-- ---- what an amount sets

-- infinity, by its sign
abbrev pub infinity : Bool → Amount
infinity negative = if negative then amounts.BelowAll else amounts.AboveAll

-- a number from 10^20 on is infinite
abbrev pub amount : Decimal → Amount
amount d = if is_huge d then infinity d.negative else amounts.Number d

-- an amount of the code: an exact decimal below 10^20, or infinite
abbrev pub IsAmount : Amount → Type 0
IsAmount (amounts.Number d) = IsDecimal d × (is_huge d ≡ false)
IsAmount _ = Unit {0}

-- the amount is below 0
abbrev pub is_negative : Amount → Bool
is_negative amounts.BelowAll = true
is_negative amounts.AboveAll = false
is_negative (amounts.Number d) = d.negative

-- a finite bound is at most 10^9
abbrev pub finite : ℤ → Option Bound
finite z = if nat_le (unsigned_abs z) (10 ^ 9) then Some (Finite z) else None

-- an amount as an upper bound: rounded down, and not below all numbers
abbrev pub upper_bound : Amount → Option Bound
upper_bound amounts.BelowAll = None
upper_bound amounts.AboveAll = Some Infinite
upper_bound (amounts.Number d) = finite (floor_of d)

-- an amount as a lower bound: rounded up, and not above all numbers
abbrev pub lower_bound : Amount → Option Bound
lower_bound amounts.BelowAll = Some Infinite
lower_bound amounts.AboveAll = None
lower_bound (amounts.Number d) = finite (ceiling_of d)

-- a change: the lower bound, the upper bound, that a lower bound that was not set falls, and that
-- the column is integer
abbrev pub sets : Option Bound → Option Bound → Bool → Bool → BoundChange
sets low high falls integer = record { low = low; high = high; falls = falls; integer = integer }

-- an upper bound, which lets an unset lower bound fall where it is below 0
abbrev pub sets_upper : Bool → Amount → Option BoundChange
sets_upper integer a = option_map (λ b. sets None (Some b) (is_negative a) integer) (upper_bound a)

abbrev pub sets_lower : Bool → Amount → Option BoundChange
sets_lower integer a = option_map (λ b. sets (Some b) None false integer) (lower_bound a)

-- both bounds, each rounded inwards; neither may be infinite
abbrev pub sets_both : Amount → Option BoundChange
sets_both (amounts.Number d) =
    option_and_then (λ low.
    option_map (λ high. sets (Some low) (Some high) false false) (finite (floor_of d)))
    (finite (ceiling_of d))
sets_both _ = None

-- ---- the bounds of a column

-- the bound is infinite
abbrev pub is_infinite : Bound → Bool
is_infinite Infinite = true
is_infinite _ = false

-- a finite bound is at most 10^9
abbrev pub IsSmall : Bound → Type 0
IsSmall Infinite = Unit {0}
IsSmall (Finite z) = unsigned_abs z ≤ 10 ^ 9

-- the bounds that a change sets are within the limit
pub record IsBoundChange (c : BoundChange) : Type 0 where
  pub low : IfSome c.low IsSmall
  pub high : IfSome c.high IsSmall

-- the first bound, or else the second
abbrev pub or_bound : Option Bound → Option Bound → Option Bound
or_bound (Some b) other = Some b
or_bound None other = other

-- the bounds after a change, by those before it; a fall sets a lower bound that was not set to
-- minus infinity
abbrev pub low_after : BoundChange → Option Bound → Option Bound
low_after change old = or_bound change.low
    (if change.falls then or_bound old (Some Infinite) else old)

abbrev pub high_after : BoundChange → Option Bound → Option Bound
high_after change old = or_bound change.high old

-- a bound, where an infinite one is this
abbrev pub bound_or : ℤ → Bound → ℤ
bound_or z Infinite = z
bound_or z (Finite b) = b

-- the bound that infinite ones have: that of the box, if there is one
abbrev pub box_end : Option ℕ → ℤ
box_end boxed = pos (unwrap_or boxed 0)

-- a bound of the box is at most 10^9
abbrev pub IsBox : Option ℕ → Type 0
IsBox boxed = IfSome boxed (λ u. u ≤ 10 ^ 9)
