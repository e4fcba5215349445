-- Whole numbers beside a fraction.
use Rattle.std.proofs.Common.{◌≡◌, ℕ, zero, suc, ℤ, pos, negsuc, neg_ℤ, ◌*◌, ◌/◌, ◌^◌, ◌<◌, ◌≤◌, ◌≤ℤ◌, ◌*ℤ◌, ◌↔◌, arith}
use Rattle.std.proofs.Math.Nat.{one-le-pow, div-mul-le_self, lt-div-mul-add, mul-le-mul_right}
use Rattle.std.proofs.lemmas.Int.{ints}
use Rattle.std.proofs.lemmas.Nat.{le-div, div_below}
use Rattle.std.specs.Int.{int_div_euclid}
use Rattle.ug_problem.specs.declared.decimal.Decimal.{Decimal}
use Rattle.ug_problem.specs.Fractions.{IsAtLeast, IsAtMost, ceiling_of, floor_of, numerator_of, places_of}

-- a whole number is not above a quotient exactly where its product is not above the dividend
below_quotient : (n a : ℤ) (b : ℕ) → 0 < b → (n *ℤ pos b) ≤ℤ a → n ≤ℤ int_div_euclid a (pos b)
below_quotient (pos n) (pos a) b some h =
    let fits : n * b ≤ a = omega (arith, ints, h) in
    omega (arith, ints, le-div n a b some fits)
below_quotient (pos n) (negsuc a) b some h = absurd (omega (arith, ints, h))
below_quotient (negsuc n) (pos a) b some h = omega (arith, ints)
below_quotient (negsuc n) (negsuc a) b some h =
    let fits : a < suc n * b = omega (arith, ints, h) in
    omega (arith, ints, div_below a b (suc n) some fits)

from_quotient : (n a : ℤ) (b : ℕ) → 0 < b → n ≤ℤ int_div_euclid a (pos b) → (n *ℤ pos b) ≤ℤ a
from_quotient (pos n) (pos a) b some h =
    let fits : n * b ≤ a / b * b = mul-le-mul_right b (omega (arith, ints, h)) in
    omega (arith, ints, fits, div-mul-le_self a b)
from_quotient (pos n) (negsuc a) b some h = absurd (omega (arith, ints, h))
from_quotient (negsuc n) (pos a) b some h = omega (arith, ints)
from_quotient (negsuc n) (negsuc a) b some h =
    let fits : a / b * b ≤ n * b = mul-le-mul_right b (omega (arith, ints, h)) in
    omega (arith, ints, fits, lt-div-mul-add {a = a} {b = b} some)

some_places : (d : Decimal) → 0 < 10 ^ places_of d
some_places d = one-le-pow (places_of d) 10 (omega arith)

pub floor_is_greatest : (n : ℤ) (d : Decimal) → IsAtMost n d ↔ (n ≤ℤ floor_of d)
floor_is_greatest n d = (
  below_quotient n (numerator_of d) (10 ^ places_of d) (some_places d),
  from_quotient n (numerator_of d) (10 ^ places_of d) (some_places d),
)

-- a sign turns an order
turn : (a b : ℤ) → a ≤ℤ b → neg_ℤ b ≤ℤ neg_ℤ a
turn (pos a) (pos b) h = omega (arith, ints, h)
turn (pos a) (negsuc b) h = omega (arith, ints, h)
turn (negsuc a) (pos b) h = omega (arith, ints, h)
turn (negsuc a) (negsuc b) h = omega (arith, ints, h)

turn_left : (a b : ℤ) → neg_ℤ a ≤ℤ b → neg_ℤ b ≤ℤ a
turn_left a b h = omega (arith, ints, h)

neg_product : (n : ℤ) (b : ℕ) → neg_ℤ n *ℤ pos b ≡ neg_ℤ (n *ℤ pos b)
neg_product (pos zero) b = omega (arith, ints)
neg_product (pos (suc n)) b = omega (arith, ints)
neg_product (negsuc n) b = omega (arith, ints)

pub ceiling_is_least : (n : ℤ) (d : Decimal) → IsAtLeast n d ↔ (ceiling_of d ≤ℤ n)
ceiling_is_least n d =
    let a : ℤ = numerator_of d in
    let b : ℕ = 10 ^ places_of d in
    let e = neg_product n b in (
      λ h. turn_left n (int_div_euclid (neg_ℤ a) (pos b)) (below_quotient (neg_ℤ n) (neg_ℤ a) b (some_places d) (rw e (turn a (n *ℤ pos b) h))),
      λ h. omega (arith, ints, rw e at (from_quotient (neg_ℤ n) (neg_ℤ a) b (some_places d) (turn_left (int_div_euclid (neg_ℤ a) (pos b)) n h))),
    )
