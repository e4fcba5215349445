-- A value is printed in one way.
use Rattle.std.proofs.Common.{◌≡◌, ◌∙◌, sym, ap, subst, refl, unsigned_abs, pow-add, ℕ, ℤ, suc, ◌+◌, ◌-◌, ◌*◌, ◌/◌, ◌%◌, ◌^◌, ◌<◌, ◌≤◌, inl, inr, List, [], ◌∷◌, length, arith}
use Rattle.std.proofs.Math.Nat.{pow-suc, one-le-pow}
use Rattle.std.proofs.lemmas.Bool.{cases_order}
use Rattle.std.proofs.lemmas.Int.Digits.{digits_value-lt}
use Rattle.std.proofs.lemmas.Nat.{div-mul-add, mod-mul-add}
use Rattle.std.proofs.lemmas.Str.{digit_value_digit}
use Rattle.std.proofs.lemmas.Str.Parse.{digit_from_value}
use Rattle.std.specs.Char.{digit_value}
use Rattle.std.specs.Str.Parse.{AllDigits, digits_value}
use Rattle.ug_problem.specs.Printed.{IsLowest, IsSpelled}
use Rattle.ug_problem.proofs.Printing.{digits_cons}

-- quotient and remainder are distinguished
same_parts : (a b p v w : ℕ) → v < p → w < p → a * p + v ≡ b * p + w → (a ≡ b) × (v ≡ w)
same_parts a b p v w hv hw e = (
  sym (div-mul-add a p v hv) ∙ ap (λ (x : ℕ). x / p) e ∙ div-mul-add b p w hw,
  sym (mod-mul-add a p v hv) ∙ ap (λ (x : ℕ). x % p) e ∙ mod-mul-add b p w hw,
)

pub same_factor : (a b p : ℕ) → 0 < p → a * p ≡ b * p → a ≡ b
same_factor a b p some e = (same_parts a b p 0 0 some some (omega arith)).0

same_digit : (d e : ℕ) → digit_value d < 10 → digit_value e < 10 → digit_value d ≡ digit_value e → d ≡ e
same_digit d e hd he h =
    omega (arith, digit_value_digit d (digit_from_value d hd), digit_value_digit e (digit_from_value e he))

-- as many digits that read as the same number are the same
same_digits : (ds es : List ℕ) → length ds ≡ length es → AllDigits 10 ds → AllDigits 10 es
    → digits_value 10 ds ≡ digits_value 10 es → ds ≡ es
same_digits [] [] n hd he h = refl
same_digits [] (e ∷ es) n hd he h = absurd (omega arith)
same_digits (d ∷ ds) [] n hd he h = absurd (omega arith)
same_digits (d ∷ ds) (e ∷ es) n hd he h =
    let k : length es ≡ length ds = omega arith in
    let below : digits_value 10 ds < 10 ^ length ds = digits_value-lt 10 ds hd.1 in
    let other : digits_value 10 es < 10 ^ length ds =
    let P : ℕ → Type 0 = λ (j : ℕ). digits_value 10 es < 10 ^ j in
    subst P k (digits_value-lt 10 es he.1) in
    let f : digits_value 10 (e ∷ es) ≡ digit_value e * 10 ^ length ds + digits_value 10 es =
    digits_cons e es ∙ ap (λ (j : ℕ). digit_value e * 10 ^ j + digits_value 10 es) k in
    let parts : (digit_value d ≡ digit_value e) × (digits_value 10 ds ≡ digits_value 10 es) =
    same_parts (digit_value d) (digit_value e) (10 ^ length ds) (digits_value 10 ds) (digits_value 10 es)
    below other (sym (digits_cons d ds) ∙ h ∙ f) in
    let x : d ≡ e = same_digit d e hd.0 he.0 parts.0 in
    let y : ds ≡ es = same_digits ds es (sym k) hd.1 he.1 parts.1 in
    (cc)

-- n, p and 10 times q, in another order
reorder : (n p q : ℕ) → n * (p * (q * 10)) ≡ n * q * 10 * p
reorder n p q = grind arith

-- of two forms in lowest terms, none has more places
not_more : (scale number n k m j : ℕ) → IsLowest scale number n k → IsLowest scale number m j → k < j → ⊥
not_more scale number n k m j a b more =
    let p : ℕ = 10 ^ (scale - j) in
    let q : ℕ = 10 ^ (j - k - 1) in
    let within : j ≤ scale = b.within in
    let e : scale - k ≡ scale - j + suc (j - k - 1) = omega arith in
    let power : 10 ^ (scale - k) ≡ p * (q * 10) =
    ap (λ (i : ℕ). 10 ^ i) e ∙ pow-add 10 (scale - j) (suc (j - k - 1))
    ∙ ap (λ (x : ℕ). 10 ^ (scale - j) * x) (pow-suc 10 (j - k - 1)) in
    let products : m * p ≡ n * q * 10 * p =
    sym b.equal ∙ a.equal ∙ ap (λ (x : ℕ). n * x) power ∙ reorder n p q in
    let tens : m ≡ n * q * 10 = same_factor m (n * q * 10) p (one-le-pow (scale - j) 10 (omega arith)) products in
    elim b.lowest [ inl none ↦ omega arith | inr last ↦ last (omega arith) ]

same_lowest : (scale number n k m j : ℕ) → IsLowest scale number n k → IsLowest scale number m j
    → (n ≡ m) × (k ≡ j)
same_lowest scale number n k m j a b =
    let same : k ≡ j =
    elim (cases_order k j) [
      | inl e ↦ e
      | inr (inl less) ↦ absurd (not_more scale number n k m j a b less)
      | inr (inr more) ↦ absurd (not_more scale number m j n k b a more)
    ] in
    let products : n * 10 ^ (scale - k) ≡ m * 10 ^ (scale - k) =
    sym a.equal ∙ b.equal ∙ ap (λ (i : ℕ). m * 10 ^ (scale - i)) (sym same) in
    (same_factor n m (10 ^ (scale - k)) (one-le-pow (scale - k) 10 (omega arith)) products, same)

pub same_text : (scale : ℕ) (z : ℤ) (s t : List ℕ) → IsSpelled scale z s → IsSpelled scale z t → s ≡ t
same_text scale z s t a b =
    let n : (a.digits ≡ b.digits) × (a.places ≡ b.places) =
    same_lowest scale (unsigned_abs z) a.digits a.places b.digits b.places a.lowest b.lowest in
    let digits : a.digits ≡ b.digits = n.0 in
    let places : a.places ≡ b.places = n.1 in
    let long : length a.fraction ≡ length b.fraction =
    a.after_point.count_is ∙ places ∙ sym b.after_point.count_is in
    let last : a.digits % 10 ^ a.places ≡ b.digits % 10 ^ b.places = (cc) in
    let fraction : a.fraction ≡ b.fraction =
    same_digits a.fraction b.fraction long a.after_point.each b.after_point.each
    (a.after_point.reads ∙ last ∙ sym b.after_point.reads) in
    (cc (a.text_is, b.text_is))
