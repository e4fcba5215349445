-- Sums, differences and numbers of the other sign, in machine words.
use Rattle.std.proofs.Common.{◌≡◌, ◌≢◌, ◌∙◌, refl, zero, suc, ap, sym, ◌+◌, ◌^◌, ◌≤◌, ℤ, pos, negsuc, ◌+ℤ◌, ◌-ℤ◌, ◌≤ℤ◌, ◌<ℤ◌, neg_ℤ, true, false, int_lt, unsigned_abs, FitsSigned, arith}
use Rattle.std.proofs.lemmas.Int.{ints, fits_signed_from_abs, to_z-of_z}
use Rattle.std.specs.Int.{int_div_euclid}
use mir.Syntax.{w64, w128}
use mir.Val.{to_z, of_z}
use Rattle.ug_rows.proofs.Products.{abs_add, abs_sub}
use Rattle.ug_propagate.specs.Rounds.{floor_quotient}

pub small_fits : (v : ℤ) → unsigned_abs v ≤ 10 ^ 38 → FitsSigned w128 v
small_fits v h = fits_signed_from_abs w128 v (omega (arith, h))

-- a sum of numbers that are small fits, and so does a difference
pub sum_fits : (a b : ℤ) → unsigned_abs a + unsigned_abs b ≤ 10 ^ 38 → FitsSigned w128 (a +ℤ b)
sum_fits a b small = small_fits (a +ℤ b) (omega (arith, abs_add a b, small))

pub difference_fits : (a b : ℤ) → unsigned_abs a + unsigned_abs b ≤ 10 ^ 38 → FitsSigned w128 (a -ℤ b)
difference_fits a b small = small_fits (a -ℤ b) (omega (arith, abs_sub a b, small))

pub abs_neg : (a : ℤ) → unsigned_abs (pos 0 -ℤ a) ≡ unsigned_abs a
abs_neg (pos n) = omega (arith, ints)
abs_neg (negsuc n) = omega (arith, ints)

less_zero : (a : ℤ) → pos 0 -ℤ a ≡ neg_ℤ a
less_zero (pos n) = omega (arith, ints)
less_zero (negsuc n) = omega (arith, ints)

pub negated_fits : (a : ℤ) → unsigned_abs a ≤ 10 ^ 38 → FitsSigned w128 (pos 0 -ℤ a)
negated_fits a small = small_fits (pos 0 -ℤ a) (omega (arith, abs_neg a, small))

-- a number with the other sign, kept in a machine word
pub word_negated : (a : ℤ) → unsigned_abs a ≤ 10 ^ 38
    → to_z w128 (of_z w128 (pos 0 -ℤ to_z w128 (of_z w128 a))) ≡ neg_ℤ a
word_negated a small =
    rw (to_z-of_z w128 a (small_fits a small), to_z-of_z w128 (pos 0 -ℤ a) (negated_fits a small)) (less_zero a)

-- is as large
pub abs_negated : (a : ℤ) → unsigned_abs (neg_ℤ a) ≡ unsigned_abs a
abs_negated a = ap unsigned_abs (sym (less_zero a)) ∙ abs_neg a

-- a quotient that is rounded down, by the sign of the divisor
pub floor_above_zero : (n d : ℤ) → pos 0 <ℤ d → floor_quotient n d ≡ int_div_euclid n d
floor_above_zero n (pos d) h = refl
floor_above_zero n (negsuc d) h = absurd (omega (arith, ints))

pub floor_below_zero : (n d : ℤ) → d ≤ℤ pos 0 → d ≢ pos 0 → floor_quotient n d ≡ int_div_euclid (neg_ℤ n) (neg_ℤ d)
floor_below_zero n (pos zero) h ne = absurd (ne refl)
floor_below_zero n (pos (suc d)) h ne = absurd (omega (arith, ints))
floor_below_zero n (negsuc d) h ne = refl

pub negated_above : (d : ℤ) → d ≤ℤ pos 0 → d ≢ pos 0 → pos 0 <ℤ neg_ℤ d
negated_above (pos zero) h ne = absurd (ne refl)
negated_above (pos (suc d)) h ne = absurd (omega (arith, ints))
negated_above (negsuc d) h ne = omega (arith, ints)

-- what a test says
pub less_true : (a b : ℤ) → int_lt a b ≡ true → a <ℤ b
less_true a b h = omega (arith, ints)

pub less_false : (a b : ℤ) → int_lt a b ≡ false → b ≤ℤ a
less_false a b h = omega (arith, ints)

-- a number that is not beyond 64 bits
pub within_short : (n : ℤ) → n ≤ℤ pos 9223372036854775807 → negsuc 9223372036854775806 ≤ℤ n → FitsSigned w64 n
within_short (pos n) most least = fits_signed_from_abs w64 (pos n) (omega (arith, ints))
within_short (negsuc n) most least = fits_signed_from_abs w64 (negsuc n) (omega (arith, ints))
