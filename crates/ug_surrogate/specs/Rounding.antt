-- The sides of a row, moved inwards to the sums that it can have over a box.
use Rattle.std.specs.Prelude.{◌≢◌, ℕ, ℤ, pos, ◌+ℤ◌, ◌-ℤ◌, ◌*ℤ◌, ◌≤ℤ◌, ◌<◌, ◌≤◌, ◌*◌, ◌^◌, ◌↔◌, List, length, unsigned_abs}
use Rattle.std.specs.Prelude.{Option, Some, None, IfSome, option_map, nat_lt, int_lt, if◌then◌else◌}
use Rattle.std.specs.Int.{int_div_euclid}
use Rattle.std.specs.Int.{◌∣◌}
use Rattle.ug_rows.specs.declared.area.Interval.{Interval}
use Rattle.ug_rows.specs.declared.row.Row.{Row}
use Rattle.ug_rows.specs.declared.row.Term.{Term}
use Rattle.ug_rows.specs.Boxes.{IsInside, interval_at}
use Rattle.ug_rows.specs.Rows.{Keeps, sum_at, term_at}
use Rattle.ug_rows.specs.Sums.{least_sum}
use Rattle.ug_surrogate.specs.declared.rounding.Sides.{Sides}
use Rattle.ug_surrogate.specs.declared.rounding.Narrowed.{Narrowed}
use Rattle.ug_surrogate.specs.declared.rounding.Narrowed.TheVariants.{To, Empty}
use Rattle.ug_surrogate.specs.Weights.{rounded_up}

-- the column has more than one value
abbrev pub IsOpen : Interval → Type 0
IsOpen side = side.low ≢ side.high

-- d divides the coefficients of those of the first n terms whose columns are open
abbrev pub DividesOpen : List Term → List Interval → ℕ → ℕ → Type 0
DividesOpen terms area n d = (k : ℕ) → k < n
    → IsOpen (interval_at area (term_at terms k).column) → d ∣ unsigned_abs (term_at terms k).factor

-- what divides g is exactly what divides each of those coefficients
abbrev pub IsDivisorOf : List Term → List Interval → ℕ → ℕ → Type 0
IsDivisorOf terms area n g = (d : ℕ) → (d ∣ g) ↔ DividesOpen terms area n d

-- g is the greatest common divisor of the coefficients of the open columns, 0 where none is open
abbrev pub IsCommonDivisor : List Term → List Interval → ℕ → Type 0
IsCommonDivisor terms area g = IsDivisorOf terms area (length terms) g

-- the least of the numbers base, base + g, base + 2 g, .., down and up, that is at least low
abbrev pub up_to_step : ℕ → ℤ → ℤ → ℤ
up_to_step g base low = base +ℤ (pos g *ℤ rounded_up (low -ℤ base) g)

-- the greatest of them that is at most high
abbrev pub down_to_step : ℕ → ℤ → ℤ → ℤ
down_to_step g base high = base +ℤ (pos g *ℤ int_div_euclid (high -ℤ base) (pos g))

-- these sides, if a sum can satisfy both
abbrev pub sides_or_empty : Option ℤ → Option ℤ → Narrowed
sides_or_empty None high = To (record { low = None; high = high })
sides_or_empty (Some low) None = To (record { low = Some low; high = None })
sides_or_empty (Some low) (Some high) =
    if int_lt high low then Empty else To (record { low = Some low; high = Some high })

-- the sides of a row whose sums over the box differ by multiples of g
abbrev pub rounded_by : ℕ → Row → List Interval → Narrowed
rounded_by g row area =
    if nat_lt g 2 then To (record { low = row.low; high = row.high })
    else sides_or_empty (option_map (up_to_step g (least_sum row.terms area)) row.low)
    (option_map (down_to_step g (least_sum row.terms area)) row.high)

-- a sum satisfies what is left of the sides
pub record KeepsSides (sides : Sides) (sum : ℤ) : Type 0 where
  pub low : IfSome sides.low (λ low. low ≤ℤ sum)
  pub high : IfSome sides.high (λ high. sum ≤ℤ high)

abbrev pub KeepsNarrowed : Narrowed → ℤ → Type 0
KeepsNarrowed (To sides) sum = KeepsSides sides sum
KeepsNarrowed Empty sum = ⊥

-- each point of the box that satisfies the row satisfies what is left of its sides
abbrev pub LosesNone : Row → List Interval → Narrowed → Type 0
LosesNone row area rounded = (x : List ℤ) → IsInside area x → Keeps row x
    → KeepsNarrowed rounded (sum_at row.terms x)

-- a sum that satisfies the sides that are left satisfies the row's own
abbrev pub IsNarrower : Row → Narrowed → Type 0
IsNarrower row left = (sum : ℤ) → KeepsNarrowed left sum
    → KeepsSides (record { low = row.low; high = row.high }) sum

-- both sides are at most 3 * 10^37
pub record HasSmallSides (row : Row) : Type 0 where
  pub low : IfSome row.low (λ low. unsigned_abs low ≤ 3 * 10 ^ 37)
  pub high : IfSome row.high (λ high. unsigned_abs high ≤ 3 * 10 ^ 37)
