-- Products of a coefficient and an i32, and how large they are.
use Rattle.std.proofs.Common.{◌-ℤ◌, suc, zero, ◌≡◌, ◌+◌, ◌*◌, ◌^◌, ◌≤◌, ℤ, pos, negsuc, ◌+ℤ◌, ◌*ℤ◌, unsigned_abs, FitsSigned, ◌∙◌, arith}
use Rattle.std.proofs.Math.Nat.{mul-le-mul}
use Rattle.std.proofs.lemmas.Int.{ints, unsigned_abs-mul, fits_signed_from_abs, to_z-of_z}
use mir.Syntax.{w32, w128}
use mir.Val.{to_z, of_z}

-- the absolute value of a sum is at most the sum of those of its parts
pub abs_add : (a b : ℤ) → unsigned_abs (a +ℤ b) ≤ unsigned_abs a + unsigned_abs b
abs_add (pos a) (pos b) = omega (arith, ints)
abs_add (pos a) (negsuc b) = omega (arith, ints)
abs_add (negsuc a) (pos b) = omega (arith, ints)
abs_add (negsuc a) (negsuc b) = omega (arith, ints)

-- an i32 is at most 2^31 in absolute value
pub abs_i32 : (v : ℤ) → FitsSigned w32 v → unsigned_abs v ≤ 2 ^ 31
abs_i32 (pos v) h = omega (arith, ints)
abs_i32 (negsuc v) h = omega (arith, ints)

-- a product of a coefficient and an i32
pub abs_product : (f v : ℤ) → unsigned_abs f ≤ 10 ^ 24 → FitsSigned w32 v → unsigned_abs (f *ℤ v) ≤ 10 ^ 24 * 2 ^ 31
abs_product f v small fits = omega (arith, unsigned_abs-mul f v, mul-le-mul small (abs_i32 v fits))

pub product_fits : (f v : ℤ) → unsigned_abs f ≤ 10 ^ 24 → FitsSigned w32 v → FitsSigned w128 (f *ℤ v)
product_fits f v small fits = fits_signed_from_abs w128 (f *ℤ v) (omega (arith, abs_product f v small fits))

pub total_fits : (a b : ℤ) → unsigned_abs a ≤ 10 ^ 38 → unsigned_abs b ≤ 10 ^ 24 * 2 ^ 31 → FitsSigned w128 (a +ℤ b)
total_fits a b large small = fits_signed_from_abs w128 (a +ℤ b) (omega (arith, abs_add a b))

i32_fits_i128 : (v : ℤ) → FitsSigned w32 v → FitsSigned w128 v
i32_fits_i128 v fits = fits_signed_from_abs w128 v (omega (arith, abs_i32 v fits))

-- what the code of `add_product` gives is the total and the product
pub added : (t f v r : ℤ) → unsigned_abs t ≤ 10 ^ 38 → unsigned_abs f ≤ 10 ^ 24 → FitsSigned w128 t → FitsSigned w128 f
    → FitsSigned w32 v → r ≡ to_z w32 (of_z w32 v)
    → to_z w128 (of_z w128 (to_z w128 (of_z w128 t) +ℤ to_z w128 (of_z w128 (to_z w128 (of_z w128 f) *ℤ to_z w128 (of_z w128 r)))))
    ≡ t +ℤ (f *ℤ v)
added t f v r large small t_fits f_fits v_fits e =
    let e' : r ≡ v = e ∙ to_z-of_z w32 v v_fits in
    let wide : FitsSigned w128 v = i32_fits_i128 v v_fits in
    let product : FitsSigned w128 (f *ℤ v) = product_fits f v small v_fits in
    let sum : FitsSigned w128 (t +ℤ (f *ℤ v)) = total_fits t (f *ℤ v) large (abs_product f v small v_fits) in
    rw e' (simp to_z-of_z)

-- and is no larger than its parts
pub added_small : (t f v r : ℤ) → unsigned_abs t ≤ 10 ^ 38 → unsigned_abs f ≤ 10 ^ 24 → FitsSigned w128 t → FitsSigned w128 f
    → FitsSigned w32 v → r ≡ to_z w32 (of_z w32 v)
    → unsigned_abs (to_z w128 (of_z w128 (to_z w128 (of_z w128 t) +ℤ to_z w128 (of_z w128 (to_z w128 (of_z w128 f) *ℤ to_z w128 (of_z w128 r))))))
    ≤ unsigned_abs t + 10 ^ 24 * 2 ^ 31
added_small t f v r large small t_fits f_fits v_fits e =
    rw (added t f v r large small t_fits f_fits v_fits e) (omega (arith, abs_add t (f *ℤ v), abs_product f v small v_fits))

-- for `add_product`
pub ruleset products = (abs_add, abs_product, product_fits, total_fits, to_z-of_z)

-- a difference is no larger than its parts
pub abs_sub : (a b : ℤ) → unsigned_abs (a -ℤ b) ≤ unsigned_abs a + unsigned_abs b
abs_sub (pos a) (pos zero) = omega (arith, ints)
abs_sub (pos a) (pos (suc b)) = omega (arith, ints)
abs_sub (pos a) (negsuc b) = omega (arith, ints)
abs_sub (negsuc a) (pos zero) = omega (arith, ints)
abs_sub (negsuc a) (pos (suc b)) = omega (arith, ints)
abs_sub (negsuc a) (negsuc b) = omega (arith, ints)
