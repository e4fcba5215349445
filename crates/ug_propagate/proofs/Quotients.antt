-- Quotients of whole numbers, rounded down and up.
use Rattle.std.proofs.Common.{◌≡◌, ◌∙◌, refl, subst, ap, ℕ, zero, suc, ◌+◌, ◌*◌, ◌/◌, ◌%◌, ◌<◌, ◌≤◌, ℤ, pos, negsuc, ◌+ℤ◌, ◌-ℤ◌, ◌*ℤ◌, ◌≤ℤ◌, ◌<ℤ◌, neg_ℤ, unsigned_abs, arith}
use Rattle.std.proofs.Math.Nat.{div-le_self}
use Rattle.std.proofs.lemmas.Int.{ints, fits_signed_from_abs, by_lt_z}
use Rattle.ug_rows.proofs.EndBounds.{mul_pos}
use Rattle.std.specs.Int.{int_div_euclid}
use Rattle.ug_propagate.specs.Rounds.{floor_quotient, ceiling_quotient}
use Rattle.ug_propagate.proofs.Machine.{times_sum}

-- a quotient is no larger than the number
pub abs_floor : (n d : ℤ) → unsigned_abs (floor_quotient n d) ≤ unsigned_abs n
abs_floor (pos n) (pos d) = omega (arith, div-le_self n d)
abs_floor (pos zero) (negsuc d) = omega (arith, div-le_self 0 (suc d))
abs_floor (pos (suc n)) (negsuc d) = omega (arith, div-le_self n (suc d))
abs_floor (negsuc n) (pos d) = omega (arith, div-le_self n d)
abs_floor (negsuc n) (negsuc d) = omega (arith, div-le_self (suc n) (suc d))

-- for `floor_div`
pub ruleset quotients = (abs_floor, fits_signed_from_abs)

-- the product with the quotient that is rounded down is at most the number
pub floor_within : (n : ℤ) (d : ℕ) → 0 < d → (pos d *ℤ floor_quotient n (pos d)) ≤ℤ n
floor_within (pos n) d some = let e : d * (n / d) + n % d ≡ n = omega arith in omega (arith, ints)
floor_within (negsuc n) d some =
    let e : d * (n / d) + n % d ≡ n = omega arith in
    let k : n % d < d = omega arith in
    omega (arith, ints)

-- and one divisor more is above it
pub floor_above : (n : ℤ) (d : ℕ) → 0 < d → n <ℤ ((pos d *ℤ floor_quotient n (pos d)) +ℤ pos d)
floor_above (pos n) d some =
    let e : d * (n / d) + n % d ≡ n = omega arith in
    let k : n % d < d = omega arith in
    omega (arith, ints)
floor_above (negsuc n) d some = let e : d * (n / d) + n % d ≡ n = omega arith in omega (arith, ints)

-- one more of a coefficient
mul_more : (d : ℕ) (q : ℤ) → (pos d *ℤ (q +ℤ pos 1)) ≡ (pos d *ℤ q) +ℤ pos d
mul_more d (pos q) = omega (arith, ints)
mul_more d (negsuc zero) = omega (arith, ints)
mul_more d (negsuc (suc q)) =
    let e : negsuc (suc q) +ℤ pos 1 ≡ negsuc q = omega (arith, ints) in
    let f : pos d *ℤ negsuc q ≡ (pos d *ℤ negsuc (suc q)) +ℤ pos d = omega (arith, ints) in
    ap (λ (y : ℤ). pos d *ℤ y) e ∙ f

next : (q x : ℤ) → q <ℤ x → (q +ℤ pos 1) ≤ℤ x
next q x h = omega (arith, ints)

-- it is the greatest whole number whose product with the divisor is at most the number
pub floor_greatest : (n : ℤ) (d : ℕ) (x : ℤ) → 0 < d → (pos d *ℤ x) ≤ℤ n → x ≤ℤ floor_quotient n (pos d)
floor_greatest n d x some h =
    let q : ℤ = floor_quotient n (pos d) in
    by_lt_z q x
    (λ above. absurd (let k : (pos d *ℤ (q +ℤ pos 1)) ≤ℤ (pos d *ℤ x) = mul_pos d (q +ℤ pos 1) x (next q x above) in
    omega (arith, ints, k, mul_more d q, floor_above n d some, h)))
    (λ within. within)

turned : (d : ℕ) (x s : ℤ) → s ≤ℤ (negsuc d *ℤ x) → (pos (suc d) *ℤ x) ≤ℤ neg_ℤ s
turned d (pos x) s h = omega (arith, ints)
turned d (negsuc x) s h = omega (arith, ints)

mirrored : (d x s : ℤ) → s ≤ℤ (d *ℤ x) → (d *ℤ neg_ℤ x) ≤ℤ neg_ℤ s
mirrored (pos d) (pos zero) s h = omega (arith, ints)
mirrored (pos d) (pos (suc x)) s h = omega (arith, ints)
mirrored (pos d) (negsuc x) s h = omega (arith, ints)
mirrored (negsuc d) (pos zero) s h = omega (arith, ints)
mirrored (negsuc d) (pos (suc x)) s h = omega (arith, ints)
mirrored (negsuc d) (negsuc x) s h = omega (arith, ints)

mirrored_back : (d x s : ℤ) → (d *ℤ x) ≤ℤ s → neg_ℤ s ≤ℤ (d *ℤ neg_ℤ x)
mirrored_back (pos d) (pos zero) s h = omega (arith, ints)
mirrored_back (pos d) (pos (suc x)) s h = omega (arith, ints)
mirrored_back (pos d) (negsuc x) s h = omega (arith, ints)
mirrored_back (negsuc d) (pos zero) s h = omega (arith, ints)
mirrored_back (negsuc d) (pos (suc x)) s h = omega (arith, ints)
mirrored_back (negsuc d) (negsuc x) s h = omega (arith, ints)

-- with a divisor below 0 it is the greatest whose product is at least the number
pub floor_greatest_neg : (n : ℤ) (d : ℕ) (x : ℤ) → n ≤ℤ (negsuc d *ℤ x) → x ≤ℤ floor_quotient n (negsuc d)
floor_greatest_neg n d x h = floor_greatest (neg_ℤ n) (suc d) x (omega arith) (turned d x n h)

flip : (x q : ℤ) → neg_ℤ x ≤ℤ q → neg_ℤ q ≤ℤ x
flip x q h = omega (arith, ints)

-- the quotient that is rounded up is the least whose product is at least the number
pub ceiling_least : (n : ℤ) (d : ℕ) (x : ℤ) → 0 < d → n ≤ℤ (pos d *ℤ x) → ceiling_quotient n (pos d) ≤ℤ x
ceiling_least n d x some h =
    flip x (floor_quotient (neg_ℤ n) (pos d)) (floor_greatest (neg_ℤ n) d (neg_ℤ x) some (mirrored (pos d) x n h))

-- with a divisor below 0 it is the least whose product is at most the number
pub ceiling_least_neg : (n : ℤ) (d : ℕ) (x : ℤ) → (negsuc d *ℤ x) ≤ℤ n → ceiling_quotient n (negsuc d) ≤ℤ x
ceiling_least_neg n d x h =
    flip x (floor_quotient (neg_ℤ n) (negsuc d)) (floor_greatest_neg (neg_ℤ n) d (neg_ℤ x) (mirrored_back (negsuc d) x n h))

turned_back : (d : ℕ) (x s : ℤ) → (pos (suc d) *ℤ x) ≤ℤ neg_ℤ s → s ≤ℤ (negsuc d *ℤ x)
turned_back d (pos x) s h = omega (arith, ints)
turned_back d (negsuc x) s h = omega (arith, ints)

-- the products with these quotients satisfy the number
pub floor_within_neg : (n : ℤ) (d : ℕ) → n ≤ℤ (negsuc d *ℤ floor_quotient n (negsuc d))
floor_within_neg n d = turned_back d (floor_quotient n (negsuc d)) n (floor_within (neg_ℤ n) (suc d) (omega arith))

twice : (s : ℤ) → neg_ℤ (neg_ℤ s) ≡ s
twice (pos zero) = refl
twice (pos (suc n)) = refl
twice (negsuc n) = refl

pub ceiling_within : (n : ℤ) (d : ℕ) → 0 < d → n ≤ℤ (pos d *ℤ ceiling_quotient n (pos d))
ceiling_within n d some =
    let q : ℤ = floor_quotient (neg_ℤ n) (pos d) in
    let h : neg_ℤ (neg_ℤ n) ≤ℤ (pos d *ℤ neg_ℤ q) = mirrored_back (pos d) q (neg_ℤ n) (floor_within (neg_ℤ n) d some) in
    let P : ℤ → Type 0 = λ (m : ℤ). m ≤ℤ (pos d *ℤ neg_ℤ q) in
    subst P (twice n) h

pub ceiling_within_neg : (n : ℤ) (d : ℕ) → (negsuc d *ℤ ceiling_quotient n (negsuc d)) ≤ℤ n
ceiling_within_neg n d =
    let q : ℤ = floor_quotient (neg_ℤ n) (negsuc d) in
    let h : (negsuc d *ℤ neg_ℤ q) ≤ℤ neg_ℤ (neg_ℤ n) = mirrored (negsuc d) q (neg_ℤ n) (floor_within_neg (neg_ℤ n) d) in
    let P : ℤ → Type 0 = λ (m : ℤ). (negsuc d *ℤ neg_ℤ q) ≤ℤ m in
    subst P (twice n) h

-- a number between a product with the divisor and that with one more is the quotient
quotient_is : (n : ℤ) (d : ℕ) (x : ℤ) → 0 < d → (pos d *ℤ x) ≤ℤ n → n <ℤ ((pos d *ℤ x) +ℤ pos d) → floor_quotient n (pos d) ≡ x
quotient_is n d x some within above =
    let q : ℤ = floor_quotient n (pos d) in
    let least : x ≤ℤ q = floor_greatest n d x some within in
    let most : q ≤ℤ x = by_lt_z x q
    (λ less. absurd (let k : (pos d *ℤ (x +ℤ pos 1)) ≤ℤ (pos d *ℤ q) = mul_pos d (x +ℤ pos 1) q (next x q less) in
    omega (arith, ints, k, mul_more d x, floor_within n d some, above)))
    (λ h. h) in
    omega (arith, ints, least, most)

-- whole divisors more are as much more of the quotient
pub quotient_more : (slack low : ℤ) (d : ℕ) → 0 < d
    → floor_quotient (slack +ℤ (pos d *ℤ low)) (pos d) ≡ low +ℤ floor_quotient slack (pos d)
quotient_more slack low d some =
    let s : ℤ = floor_quotient slack (pos d) in
    let e : pos d *ℤ (low +ℤ s) ≡ (pos d *ℤ low) +ℤ (pos d *ℤ s) = times_sum (pos d) low s in
    quotient_is (slack +ℤ (pos d *ℤ low)) d (low +ℤ s) some
    (omega (arith, ints, e, floor_within slack d some)) (omega (arith, ints, e, floor_above slack d some))

turned_product : (d : ℕ) (x : ℤ) → negsuc d *ℤ x ≡ pos (suc d) *ℤ neg_ℤ x
turned_product d (pos zero) = omega (arith, ints)
turned_product d (pos (suc x)) = omega (arith, ints)
turned_product d (negsuc x) = omega (arith, ints)

negated_sum : (slack product : ℤ) → neg_ℤ (product -ℤ slack) ≡ slack +ℤ neg_ℤ product
negated_sum slack product = omega (arith, ints)

negated_product : (d : ℕ) (x : ℤ) → neg_ℤ (pos d *ℤ x) ≡ pos d *ℤ neg_ℤ x
negated_product d (pos zero) = omega (arith, ints)
negated_product d (pos (suc x)) = omega (arith, ints)
negated_product d (negsuc x) = omega (arith, ints)

twice_turned : (d : ℕ) (x : ℤ) → neg_ℤ (negsuc d *ℤ x) ≡ pos (suc d) *ℤ x
twice_turned d (pos zero) = omega (arith, ints)
twice_turned d (pos (suc x)) = omega (arith, ints)
twice_turned d (negsuc x) = omega (arith, ints)

back_down : (high s : ℤ) → neg_ℤ (neg_ℤ high +ℤ s) ≡ high -ℤ s
back_down high s = omega (arith, ints)

-- so far a product may be above its least, and below its greatest
pub up_to_high : (slack low : ℤ) (d : ℕ) → 0 < d
    → floor_quotient (slack +ℤ (pos d *ℤ low)) (pos d) ≡ low +ℤ int_div_euclid slack (pos d)
up_to_high slack low d some = quotient_more slack low d some

pub down_to_high : (slack high : ℤ) (d : ℕ)
    → ceiling_quotient (slack +ℤ (negsuc d *ℤ high)) (negsuc d) ≡ high -ℤ int_div_euclid slack (pos (suc d))
down_to_high slack high d =
    let n : ℤ = slack +ℤ (negsuc d *ℤ high) in
    let e : n ≡ slack +ℤ (pos (suc d) *ℤ neg_ℤ high) = ap (λ (v : ℤ). slack +ℤ v) (turned_product d high) in
    ap (λ (v : ℤ). neg_ℤ (floor_quotient v (pos (suc d)))) (twice n ∙ e)
    ∙ ap neg_ℤ (quotient_more slack (neg_ℤ high) (suc d) (omega arith)) ∙ back_down high (floor_quotient slack (pos (suc d)))

pub down_to_low : (slack high : ℤ) (d : ℕ) → 0 < d
    → ceiling_quotient ((pos d *ℤ high) -ℤ slack) (pos d) ≡ high -ℤ int_div_euclid slack (pos d)
down_to_low slack high d some =
    let e : neg_ℤ ((pos d *ℤ high) -ℤ slack) ≡ slack +ℤ (pos d *ℤ neg_ℤ high) =
    negated_sum slack (pos d *ℤ high) ∙ ap (λ (v : ℤ). slack +ℤ v) (negated_product d high) in
    ap (λ (v : ℤ). neg_ℤ (floor_quotient v (pos d))) e
    ∙ ap neg_ℤ (quotient_more slack (neg_ℤ high) d some) ∙ back_down high (floor_quotient slack (pos d))

pub up_to_low : (slack low : ℤ) (d : ℕ)
    → floor_quotient ((negsuc d *ℤ low) -ℤ slack) (negsuc d) ≡ low +ℤ int_div_euclid slack (pos (suc d))
up_to_low slack low d =
    let e : neg_ℤ ((negsuc d *ℤ low) -ℤ slack) ≡ slack +ℤ (pos (suc d) *ℤ low) =
    negated_sum slack (negsuc d *ℤ low) ∙ ap (λ (v : ℤ). slack +ℤ v) (twice_turned d low) in
    ap (λ (v : ℤ). floor_quotient v (pos (suc d))) e ∙ quotient_more slack low (suc d) (omega arith)
