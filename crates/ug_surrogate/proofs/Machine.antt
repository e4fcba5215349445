-- Numbers of at most 10^38 fit.
use Rattle.std.proofs.Common.{◌≡◌, ◌∙◌, refl, ℕ, ◌+◌, ◌*◌, ◌/◌, ◌%◌, ◌^◌, ◌<◌, ◌≤◌, ℤ, pos, negsuc, ◌+ℤ◌, ◌-ℤ◌, ◌*ℤ◌, unsigned_abs, FitsSigned, arith}
use Rattle.std.proofs.lemmas.Int.{ints, fits_signed_from_abs, to_z-of_z, unsigned_abs-mul}
use Rattle.std.proofs.Math.Nat.{div-le_self, mul-le-mul}
use Rattle.std.specs.Int.{int_div_euclid}
use mir.Syntax.{w128}
use mir.Val.{to_z, of_z}
use Rattle.ug_rows.proofs.Products.{abs_add, abs_sub}

pub small_fits : (v : ℤ) → unsigned_abs v ≤ 10 ^ 38 → FitsSigned w128 v
small_fits v h = fits_signed_from_abs w128 v (omega (arith, h))

pub weighted_size : (w f : ℤ) → unsigned_abs w ≤ 2 ^ 33 → unsigned_abs f ≤ 10 ^ 24 → unsigned_abs w * unsigned_abs f ≤ 10 ^ 24 * 2 ^ 33
weighted_size w f h k = omega (arith, mul-le-mul h k)

-- the quotient, times the divisor, is at most a divisor away from the number
pub quotient_size : (n : ℤ) (d : ℕ) → 0 < d → d * unsigned_abs (int_div_euclid n (pos d)) ≤ unsigned_abs n + d
quotient_size (pos n) d some = let e : d * (n / d) + n % d ≡ n = omega arith in omega (arith, e)
quotient_size (negsuc n) d some = let e : d * (n / d) + n % d ≡ n = omega arith in omega (arith, e)

pub quotient_small : (n : ℤ) (d : ℕ) → 0 < d → unsigned_abs (int_div_euclid n (pos d)) ≤ unsigned_abs n
quotient_small (pos n) d some = omega (arith, div-le_self n d)
quotient_small (negsuc n) d some = omega (arith, div-le_self n d)

pub ruleset fits = (small_fits, unsigned_abs-mul, to_z-of_z)

-- a product, kept in a machine word, of numbers that are known
pub word_product : (a b left right product : ℤ) → left ≡ a → right ≡ b → product ≡ left *ℤ right → FitsSigned w128 product
    → to_z w128 (of_z w128 product) ≡ a *ℤ b
word_product a b left right product p q e fits = to_z-of_z w128 product fits ∙ e ∙ rw (p, q) refl

-- likewise a sum
pub word_sum : (a b left right sum : ℤ) → left ≡ a → right ≡ b → sum ≡ left +ℤ right → FitsSigned w128 sum
    → to_z w128 (of_z w128 sum) ≡ a +ℤ b
word_sum a b left right sum p q e fits = to_z-of_z w128 sum fits ∙ e ∙ rw (p, q) refl

-- and a difference
pub word_difference : (a b left right difference : ℤ) → left ≡ a → right ≡ b → difference ≡ left -ℤ right → FitsSigned w128 difference
    → to_z w128 (of_z w128 difference) ≡ a -ℤ b
word_difference a b left right difference p q e fits = to_z-of_z w128 difference fits ∙ e ∙ rw (p, q) refl

-- a total and a weighted coefficient are small
pub weighted_sum : (t w f : ℤ) → unsigned_abs t ≤ 9 * 10 ^ 37 → unsigned_abs w ≤ 2 ^ 33 → unsigned_abs f ≤ 10 ^ 24
    → unsigned_abs (t +ℤ (w *ℤ f)) ≤ unsigned_abs t + 10 ^ 24 * 2 ^ 33
weighted_sum t w f small h k = omega (arith, abs_add t (w *ℤ f), unsigned_abs-mul w f, weighted_size w f h k)

-- a difference of a total and a weighted side is no larger than both
pub less_size : (t w s : ℤ) (size : ℕ) → unsigned_abs w * unsigned_abs s ≡ size
    → unsigned_abs (t -ℤ (w *ℤ s)) ≤ unsigned_abs t + size
less_size t w s size e = omega (arith, abs_sub t (w *ℤ s), unsigned_abs-mul w s, e)

abs_neg : (a : ℤ) → unsigned_abs (pos 0 -ℤ a) ≡ unsigned_abs a
abs_neg (pos n) = omega (arith, ints)
abs_neg (negsuc n) = omega (arith, ints)

-- a number with the other sign, kept in a machine word, is as large
pub word_negated : (a : ℤ) → unsigned_abs a ≤ 10 ^ 38
    → unsigned_abs (to_z w128 (of_z w128 (pos 0 -ℤ to_z w128 (of_z w128 a)))) ≡ unsigned_abs a
word_negated a small =
    rw (to_z-of_z w128 a (small_fits a small), to_z-of_z w128 (pos 0 -ℤ a) (small_fits (pos 0 -ℤ a) (omega (arith, small, abs_neg a))))
    (abs_neg a)
