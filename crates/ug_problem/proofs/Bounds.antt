-- A decimal number that is not whole, rounded, and the powers of ten that make it whole.
use Rattle.std.proofs.Common.{◌≡◌, ◌≢◌, ◌∙◌, sym, ap, refl, ℕ, zero, suc, ℤ, pos, negsuc, neg_ℤ, ◌+◌, ◌-◌, ◌*◌, ◌/◌, ◌%◌, ◌^◌, ◌<◌, ◌≤◌, ◌<ℤ◌, ◌*ℤ◌, Bool, true, false, unsigned_abs, inl, inr, pow-add, arith}
use Rattle.std.proofs.Math.Nat.{one-le-pow, pow-suc, pow-le-pow_right, mul_assoc, mul_comm}
use Rattle.std.proofs.lemmas.Int.{ints, unsigned_abs-mul}
use Rattle.std.proofs.lemmas.Nat.{div-mul-add, mod-mul-add}
use Rattle.std.proofs.lemmas.Bool.{cases_lt}
use Rattle.std.specs.Int.{int_div_euclid}
use Rattle.ug_problem.specs.declared.decimal.Decimal.{Decimal}
use Rattle.ug_problem.specs.Decimals.{IsDecimal, signed}
use Rattle.ug_problem.specs.Fractions.{IsScaled, ceiling_of, denominator_of, floor_of, numerator_of, places_of, places_of_power, scaled, signed_digits, zeros_of_power}
use Rattle.ug_problem.proofs.OneText.{same_factor}

-- a number below a power of ten has no whole part
vanishes_at : (n : ℕ) (p : ℤ) → n < 10 ^ 38 → 37 < places_of_power p
    → 0 ≡ n * 10 ^ zeros_of_power p / 10 ^ places_of_power p
vanishes_at n (pos p) short far = absurd (omega arith)
vanishes_at n (negsuc k) short far =
    let power : 10 ^ 38 ≤ 10 ^ suc k = pow-le-pow_right {n = 10} (omega arith) far in
    let below : n < 10 ^ suc k = omega arith in
    sym (div-mul-add 0 (10 ^ suc k) n below) ∙ ap (λ (x : ℕ). x / 10 ^ suc k) (omega arith)

pub vanishes : (d : Decimal) → d.digits < 10 ^ 38 → 37 < places_of d
    → 0 ≡ d.digits * 10 ^ zeros_of_power d.power / 10 ^ places_of d
vanishes d short far = vanishes_at d.digits d.power short far

-- a number that does not end in 0 is not divided by ten
not_divided : (m k : ℕ) → suc m % 10 ≢ 0 → suc m % (10 ^ suc k) ≢ 0
not_divided m k last none =
    let D : ℕ = 10 ^ suc k in
    let q : ℕ = suc m / D in
    let whole : suc m ≡ q * D = omega arith in
    let tens : q * D ≡ q * 10 ^ k * 10 = ap (λ (x : ℕ). q * x) (pow-suc 10 k) ∙ sym (mul_assoc q (10 ^ k) 10) in
    let e : suc m ≡ q * 10 ^ k * 10 + 0 = omega arith in
    last (ap (λ (x : ℕ). x % 10) e ∙ mod-mul-add (q * 10 ^ k) 10 0 (omega arith))

-- so one less has the same quotient
one_less : (m k : ℕ) → suc m % 10 ≢ 0 → m / 10 ^ suc k ≡ suc m / 10 ^ suc k
one_less m k last =
    let D : ℕ = 10 ^ suc k in
    let some : 0 < D = one-le-pow (suc k) 10 (omega arith) in
    let q : ℕ = suc m / D in
    let r : ℕ = suc m % D in
    let left : r ≢ 0 = not_divided m k last in
    let whole : q * D + r ≡ suc m = omega arith in
    let top : r < D = omega arith in
    let e : m ≡ q * D + (r - 1) = omega arith in
    ap (λ (x : ℕ). x / D) e ∙ div-mul-add q D (r - 1) (omega arith)

-- rounded down, a number below 0 that is not whole
down : (n : ℕ) (p : ℤ) → p <ℤ pos 0 → n % 10 ≢ 0
    → int_div_euclid (neg_ℤ (pos n) *ℤ pos (10 ^ zeros_of_power p)) (pos (10 ^ places_of_power p))
    ≡ negsuc (n * 10 ^ zeros_of_power p / 10 ^ places_of_power p)
down n (pos p) below last = absurd (omega (arith, ints, below))
down zero (negsuc k) below last = absurd (last refl)
down (suc m) (negsuc k) below last =
    let e : negsuc m *ℤ pos 1 ≡ negsuc m = omega (arith, ints) in
    ap (λ (z : ℤ). int_div_euclid z (pos (10 ^ suc k))) e
    ∙ ap negsuc (one_less m k last ∙ ap (λ (x : ℕ). x / 10 ^ suc k) (omega arith))

-- rounded up, a number above 0 that is not whole
up : (n : ℕ) (p : ℤ) → p <ℤ pos 0 → n % 10 ≢ 0
    → neg_ℤ (int_div_euclid (neg_ℤ (pos n *ℤ pos (10 ^ zeros_of_power p))) (pos (10 ^ places_of_power p)))
    ≡ pos (suc (n * 10 ^ zeros_of_power p / 10 ^ places_of_power p))
up n (pos p) below last = absurd (omega (arith, ints, below))
up zero (negsuc k) below last = absurd (last refl)
up (suc m) (negsuc k) below last =
    let e : neg_ℤ (pos (suc m) *ℤ pos 1) ≡ negsuc m = omega (arith, ints) in
    ap (λ (z : ℤ). neg_ℤ (int_div_euclid z (pos (10 ^ suc k)))) e
    ∙ ap (λ (x : ℕ). pos (suc x)) (one_less m k last ∙ ap (λ (x : ℕ). x / 10 ^ suc k) (omega arith))

-- a decimal number that is not whole does not end in 0
last_digit : (d : Decimal) → IsDecimal d → d.power <ℤ pos 0 → d.digits % 10 ≢ 0
last_digit d normal below = elim normal.lowest [
  | inl last ↦ last
  | inr none ↦ absurd (let e : d.power ≡ pos 0 = ap (λ (x : Decimal). x.power) none in omega (arith, ints, e, below))
]

pub floor_below : (d : Decimal) (w : ℕ) → IsDecimal d → d.negative ≡ true → d.power <ℤ pos 0
    → w ≡ d.digits * 10 ^ zeros_of_power d.power / 10 ^ places_of d → floor_of d ≡ negsuc w
floor_below d w normal negative below e =
    ap (λ (b : Bool). int_div_euclid (signed b d.digits *ℤ pos (10 ^ zeros_of_power d.power)) (denominator_of d)) negative
    ∙ down d.digits d.power below (last_digit d normal below) ∙ ap negsuc (sym e)

pub ceiling_above : (d : Decimal) (w : ℕ) → IsDecimal d → d.negative ≡ false → d.power <ℤ pos 0
    → w ≡ d.digits * 10 ^ zeros_of_power d.power / 10 ^ places_of d → ceiling_of d ≡ pos (suc w)
ceiling_above d w normal positive below e =
    ap (λ (b : Bool). neg_ℤ (int_div_euclid (neg_ℤ (signed b d.digits *ℤ pos (10 ^ zeros_of_power d.power))) (denominator_of d))) positive
    ∙ up d.digits d.power below (last_digit d normal below) ∙ ap (λ (x : ℕ). pos (suc x)) (sym e)

negated : (a b : ℕ) → neg_ℤ (pos a) *ℤ pos b ≡ neg_ℤ (pos (a * b))
negated zero b = omega (arith, ints)
negated (suc a) b = refl

-- two coefficients that are not below 0 may be taken as one
joined : (z : ℤ) (a b : ℕ) → z *ℤ pos a *ℤ pos b ≡ z *ℤ pos (a * b)
joined (pos n) a b = ap pos (mul_assoc n a b)
joined (negsuc n) a b = negated (suc n * a) b ∙ ap (λ (x : ℕ). neg_ℤ (pos x)) (mul_assoc (suc n) a b)

same_power : (z s p : ℕ) → p ≤ s → 10 ^ (z + (s - p)) * 10 ^ p ≡ 10 ^ z * 10 ^ s
same_power z s p h =
    let e : z + (s - p) + p ≡ z + s = omega arith in
    sym (pow-add 10 (z + (s - p)) p) ∙ ap (λ (k : ℕ). 10 ^ k) e ∙ pow-add 10 z s

pub scaled_is_exact : (s : ℕ) (d : Decimal) → places_of d ≤ s → IsScaled s d (scaled s d)
scaled_is_exact s d h =
    let z : ℕ = zeros_of_power d.power in
    let p : ℕ = places_of d in
    joined (signed_digits d) (10 ^ (z + (s - p))) (10 ^ p)
    ∙ ap (λ (k : ℕ). signed_digits d *ℤ pos k) (same_power z s p h)
    ∙ sym (joined (signed_digits d) (10 ^ z) (10 ^ s))

abs_signed : (b : Bool) (n : ℕ) → unsigned_abs (signed b n) ≡ n
abs_signed false n = refl
abs_signed true zero = refl
abs_signed true (suc n) = refl

regroup : (m q p : ℕ) → m * (q * 10 * p) ≡ m * q * 10 * p
regroup m q p = grind arith

-- a number that is whole once it is multiplied by too little ends in 0
ends_in_zero : (m n s j : ℕ) → m * 10 ^ (s + suc j) ≡ n * 10 ^ s → n % 10 ≡ 0
ends_in_zero m n s j e =
    let some : 0 < 10 ^ s = one-le-pow s 10 (omega arith) in
    let left : m * 10 ^ (s + suc j) ≡ m * 10 ^ j * 10 * 10 ^ s =
    ap (λ (x : ℕ). m * x) (pow-add 10 s (suc j) ∙ mul_comm (10 ^ s) (10 ^ suc j) ∙ ap (λ (x : ℕ). x * 10 ^ s) (pow-suc 10 j))
    ∙ regroup m (10 ^ j) (10 ^ s) in
    let tens : n ≡ m * 10 ^ j * 10 = same_factor n (m * 10 ^ j * 10) (10 ^ s) some (sym e ∙ left) in
    ap (λ (x : ℕ). x % 10) (tens ∙ omega arith) ∙ mod-mul-add (m * 10 ^ j) 10 0 (omega arith)

-- the equation of the absolute values
abs_scaled : (s : ℕ) (d : Decimal) (z : ℤ) → IsScaled s d z
    → unsigned_abs z * 10 ^ places_of d ≡ d.digits * 10 ^ zeros_of_power d.power * 10 ^ s
abs_scaled s d z h =
    sym (unsigned_abs-mul z (denominator_of d)) ∙ ap unsigned_abs h
    ∙ unsigned_abs-mul (numerator_of d) (pos (10 ^ s))
    ∙ ap (λ (x : ℕ). x * 10 ^ s) (unsigned_abs-mul (signed_digits d) (pos (10 ^ zeros_of_power d.power))
    ∙ ap (λ (x : ℕ). x * 10 ^ zeros_of_power d.power) (abs_signed d.negative d.digits))

too_little : (m n s : ℕ) (p : ℤ) → s < places_of_power p
    → m * 10 ^ places_of_power p ≡ n * 10 ^ zeros_of_power p * 10 ^ s → n % 10 ≡ 0
too_little m n s (pos p) less e = absurd (omega arith)
too_little m n s (negsuc k) less e =
    let j : ℕ = k - s in
    let sum : s + suc j ≡ suc k = omega arith in
    ends_in_zero m n s j (ap (λ (x : ℕ). m * 10 ^ x) sum ∙ e ∙ ap (λ (x : ℕ). x * 10 ^ s) (omega arith))

some_places : (p : ℤ) → 0 < places_of_power p → p <ℤ pos 0
some_places (pos p) h = absurd (omega arith)
some_places (negsuc k) h = omega (arith, ints)

pub whole_from_places : (s : ℕ) (d : Decimal) (z : ℤ) → IsDecimal d → IsScaled s d z → places_of d ≤ s
whole_from_places s d z normal h =
    elim (cases_lt s (places_of d)) [
      | inr enough ↦ enough
      | inl less ↦ absurd (last_digit d normal (some_places d.power (omega arith))
          (too_little (unsigned_abs z) d.digits s d.power less (abs_scaled s d z h)))
    ]
