-- How the digits of a number come off from the right.
use Rattle.std.proofs.Common.{◌≡◌, ◌∙◌, sym, ap, subst, add-one, zero-add, ℕ, suc, ◌+◌, ◌-◌, ◌*◌, ◌/◌, ◌%◌, ◌^◌, ◌<◌, ◌≤◌, List, [], ◌∷◌, ◌++◌, length, reverse, arith}
use Rattle.std.proofs.Math.Nat.{pow-suc, mul_assoc, mul_comm, div-div-eq-div-mul, one-le-pow}
use Rattle.std.proofs.Math.Arith.{mod-mul}
use Rattle.std.proofs.lemmas.Str.{digit_value_digit}
use Rattle.std.proofs.lemmas.List.{reverse-append}
use Rattle.std.specs.Char.{digit_value}
use Rattle.std.specs.Str.Parse.{digits_value, digits_value_after}
use Rattle.ug_problem.specs.Printed.{AreDigitsOf}

-- number / 10^scale is still digits / 10^places
pub record IsSame (scale number digits places : ℕ) : Type 0 where
  pub within : places ≤ scale
  pub equal : number ≡ digits * 10 ^ (scale - places)

-- a digit 0 of d is a coefficient 10 of p
shift : (d p : ℕ) → d % 10 ≡ 0 → d * p ≡ d / 10 * (p * 10)
shift d p last =
    let e : d ≡ d / 10 * 10 = omega arith in
    ap (λ (x : ℕ). x * p) e ∙ mul_assoc (d / 10) 10 p ∙ ap (λ (x : ℕ). d / 10 * x) (mul_comm 10 p)

one_power_more : (scale places : ℕ) → 0 < places → places ≤ scale
    → 10 ^ (scale - (places - 1)) ≡ 10 ^ (scale - places) * 10
one_power_more scale places some within =
    let e : scale - (places - 1) ≡ suc (scale - places) = omega arith in
    ap (λ (k : ℕ). 10 ^ k) e ∙ pow-suc 10 (scale - places)

-- a last digit that is 0 may go
pub one_place_less : (scale number digits places : ℕ)
    → IsSame scale number digits places → 0 < places → digits % 10 ≡ 0
    → IsSame scale number (digits / 10) (places - 1)
one_place_less scale number digits places same some last = record {
  within = omega arith;
  equal = same.equal ∙ shift digits (10 ^ (scale - places)) last
      ∙ ap (λ (x : ℕ). digits / 10 * x) (sym (one_power_more scale places some same.within));
}

-- what stands before the last `count` digits, and those digits, the last first
pub record IsSplit (number count whole : ℕ) (bytes : List ℕ) : Type 0 where
  pub whole_is : whole ≡ number / 10 ^ count
  pub digits : AreDigitsOf count (number % 10 ^ count) (reverse bytes)

power_more : (count : ℕ) → 10 ^ (count + 1) ≡ 10 ^ count * 10
power_more count = ap (λ (k : ℕ). 10 ^ k) (add-one count) ∙ pow-suc 10 count

-- what a first digit adds, where the power of ten of the digits after it is p
regroup : (n d p v : ℕ) → (n * 10 + d) * p + v ≡ n * (p * 10) + (d * p + v)
regroup n d p v = grind arith

digits_after : (n : ℕ) (ds : List ℕ)
    → digits_value_after 10 n ds ≡ n * 10 ^ length ds + digits_value_after 10 0 ds
digits_after n [] = omega arith
digits_after n (d ∷ ds) =
    let e : n * (10 ^ length ds * 10) ≡ n * 10 ^ suc (length ds) =
    ap (λ (x : ℕ). n * x) (sym (pow-suc 10 (length ds))) in
    let f : digits_value_after 10 (0 + digit_value d) ds
    ≡ digit_value d * 10 ^ length ds + digits_value_after 10 0 ds =
    digits_after (0 + digit_value d) ds
    ∙ ap (λ (x : ℕ). x * 10 ^ length ds + digits_value_after 10 0 ds) (zero-add (digit_value d)) in
    digits_after (n * 10 + digit_value d) ds
    ∙ regroup n (digit_value d) (10 ^ length ds) (digits_value_after 10 0 ds)
    ∙ (cc)

-- what the first digit adds
pub digits_cons : (d : ℕ) (ds : List ℕ)
    → digits_value 10 (d ∷ ds) ≡ digit_value d * 10 ^ length ds + digits_value 10 ds
digits_cons d ds =
    digits_after (0 + digit_value d) ds
    ∙ ap (λ (x : ℕ). x * 10 ^ length ds + digits_value 10 ds) (zero-add (digit_value d))

digit_below : (k : ℕ) → k < 10 → digit_value (48 + k) ≡ k
digit_below k small =
    let e : digit_value (48 + k) + 48 ≡ 48 + k = digit_value_digit (48 + k) (omega arith, omega arith) in
    omega arith

-- one more digit, before the others
digit_before : (number count : ℕ) (ds : List ℕ)
    → AreDigitsOf count (number % 10 ^ count) ds
    → AreDigitsOf (count + 1) (number % 10 ^ (count + 1)) ((48 + number / 10 ^ count % 10) ∷ ds)
digit_before number count ds h =
    let d : ℕ = number / 10 ^ count % 10 in
    let below : d < 10 = omega arith in
    let value : digit_value (48 + d) ≡ d = digit_below d below in
    let power : 10 ^ (count + 1) ≡ 10 * 10 ^ count = power_more count ∙ mul_comm (10 ^ count) 10 in
    let some : 0 < 10 ^ count = one-le-pow count 10 (omega arith) in
    let parts : number % 10 ^ (count + 1) ≡ d * 10 ^ count + number % 10 ^ count =
    ap (λ (p : ℕ). number % p) power ∙ mod-mul number {m = 10} {c = 10 ^ count} (omega arith) some in
    let first : digits_value 10 ((48 + d) ∷ ds) ≡ d * 10 ^ length ds + digits_value 10 ds =
    digits_cons (48 + d) ds ∙ ap (λ (x : ℕ). x * 10 ^ length ds + digits_value 10 ds) value in
    let shorter : d * 10 ^ length ds + digits_value_after 10 0 ds ≡ d * 10 ^ count + number % 10 ^ count =
    ap (λ (k : ℕ). d * 10 ^ k + digits_value_after 10 0 ds) h.count_is
    ∙ ap (λ (v : ℕ). d * 10 ^ count + v) h.reads in
    record {
      count_is = omega (arith, h.count_is);
      each = (omega (arith, value, below), h.each);
      reads = first ∙ shorter ∙ sym parts;
    }

-- one more digit
pub one_digit_more : (number count whole : ℕ) (bytes : List ℕ)
    → IsSplit number count whole bytes
    → IsSplit number (count + 1) (whole / 10) (bytes ++ (48 + whole % 10) ∷ [])
one_digit_more number count whole bytes h = record {
  whole_is = ap (λ (w : ℕ). w / 10) h.whole_is ∙ div-div-eq-div-mul number (10 ^ count) 10
      ∙ ap (λ (p : ℕ). number / p) (sym (power_more count));
  digits =
      let P : List ℕ → Type 0 = AreDigitsOf (count + 1) (number % 10 ^ (count + 1)) in
      let Q : ℕ → Type 0 = λ (w : ℕ). P ((48 + w % 10) ∷ reverse bytes) in
      subst P (sym (reverse-append bytes ((48 + whole % 10) ∷ [])))
      (subst Q (sym h.whole_is) (digit_before number count (reverse bytes) h.digits));
}
