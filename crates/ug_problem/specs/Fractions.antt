-- A decimal number as a fraction: between which whole numbers it lies, and which of its multiples
-- are whole.
use Rattle.std.specs.Prelude.{◌≡◌, ℕ, ℤ, pos, negsuc, neg_ℤ, ◌*ℤ◌, ◌≤ℤ◌, ◌+◌, ◌-◌, ◌*◌, ◌^◌, suc}
use Rattle.std.specs.Prelude.{nat_le, Bool}
use Rattle.std.specs.Int.{int_div_euclid}
use Rattle.ug_problem.specs.declared.decimal.Decimal.{Decimal}
use Rattle.ug_problem.specs.Decimals.{signed}

-- the number of digits behind the point
abbrev pub places_of_power : ℤ → ℕ
places_of_power (pos p) = 0
places_of_power (negsuc p) = suc p

-- how many zeros follow the digits
abbrev pub zeros_of_power : ℤ → ℕ
zeros_of_power (pos p) = p
zeros_of_power (negsuc p) = 0

abbrev pub places_of : Decimal → ℕ
places_of d = places_of_power d.power

-- the digits with their sign
abbrev pub signed_digits : Decimal → ℤ
signed_digits d = signed d.negative d.digits

-- the number is its numerator over ten to its places
abbrev pub numerator_of : Decimal → ℤ
numerator_of d = signed_digits d *ℤ pos (10 ^ zeros_of_power d.power)

abbrev pub denominator_of : Decimal → ℤ
denominator_of d = pos (10 ^ places_of d)

-- its absolute value is 10^20 or more
abbrev pub is_huge : Decimal → Bool
is_huge d = nat_le (10 ^ 20 * 10 ^ places_of d) (d.digits * 10 ^ zeros_of_power d.power)

-- n is not above the number
abbrev pub IsAtMost : ℤ → Decimal → Type 0
IsAtMost n d = (n *ℤ denominator_of d) ≤ℤ numerator_of d

-- n is not below the number
abbrev pub IsAtLeast : ℤ → Decimal → Type 0
IsAtLeast n d = numerator_of d ≤ℤ (n *ℤ denominator_of d)

-- the number rounded down
abbrev pub floor_of : Decimal → ℤ
floor_of d = int_div_euclid (numerator_of d) (denominator_of d)

-- the number rounded up
abbrev pub ceiling_of : Decimal → ℤ
ceiling_of d = neg_ℤ (int_div_euclid (neg_ℤ (numerator_of d)) (denominator_of d))

-- the number times 10^scale, where the scale is at least its places
abbrev pub scaled : ℕ → Decimal → ℤ
scaled scale d = signed_digits d *ℤ pos (10 ^ (zeros_of_power d.power + (scale - places_of d)))

-- z is the number times 10^scale
abbrev pub IsScaled : ℕ → Decimal → ℤ → Type 0
IsScaled scale d z = z *ℤ denominator_of d ≡ numerator_of d *ℤ pos (10 ^ scale)
