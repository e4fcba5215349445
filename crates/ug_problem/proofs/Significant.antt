-- The digits that count, and the zeros behind them.
use Rattle.std.proofs.Common.{◌≡◌, ◌≢◌, ◌∙◌, sym, ap, subst, refl, ℕ, ◌+◌, ◌-◌, ◌*◌, ◌%◌, ◌^◌, ◌<◌, ◌≤◌, ◌&&◌, Bool, true, false, cond, List, [], ◌∷◌, ◌++◌, length, reverse, take, drop, get_or, Option, Some, None, append_assoc, add-one, inl, inr, ltb, leb, arith}
use Rattle.std.proofs.Math.Nat.{le-mul_of_pos_right, one-le-pow, pow-suc}
use Rattle.std.proofs.Math.Seq.{take-length}
use Rattle.std.proofs.lemmas.Bool.{and_from, and_left, and_parts, and_right, cases_Bool, cases_lt, eqb-true, le-ltb, leb-true, lt-ltb, ne_eqb}
use Rattle.std.proofs.lemmas.Grind.{reverse_onto}
use Rattle.std.proofs.lemmas.Int.Digits.{digits_value_push}
use Rattle.std.proofs.lemmas.List.{append-nil, length-append, reverse-append, reverse-reverse, take-append-drop, take-append-le, take_more}
use Rattle.std.proofs.lemmas.List.Folds.{list_all-append}
use Rattle.std.proofs.lemmas.Nat.{mod-mul-add}
use Rattle.std.proofs.lemmas.Option.{cond_some}
use Rattle.std.specs.Char.{digit_value, is_ascii_digit}
use Rattle.std.specs.List.{list_all, prefix_len}
use Rattle.std.specs.Str.Parse.{digits_value}
use Rattle.ug_problem.specs.declared.decimal.digits.Digits.{Digits}
use Rattle.ug_problem.specs.Decimals.{is_zero_digit, significant_of, zeros_of}
use Rattle.ug_problem.specs.Digits.{IsKept, kept_of}
use Rattle.ug_problem.proofs.Numerals.{digit_worth}

-- one byte more, and the zeros at the end
zeros_push : (xs : List ℕ) (b : ℕ) → zeros_of (xs ++ b ∷ []) ≡ cond (is_zero_digit b) (1 + zeros_of xs) 0
zeros_push xs b = ap (prefix_len is_zero_digit) (reverse-append xs (b ∷ []))

no_zeros_push : (xs : List ℕ) (b : ℕ) → is_zero_digit b ≡ false → zeros_of (xs ++ b ∷ []) ≡ 0
no_zeros_push xs b other = zeros_push xs b ∙ ap (λ (t : Bool). cond t (1 + zeros_of xs) 0) other

-- a zero more changes nothing that counts
significant_zero : (xs : List ℕ) → significant_of (xs ++ 48 ∷ []) ≡ significant_of xs
significant_zero xs =
    let ys : List ℕ = xs ++ 48 ∷ [] in
    let e : length ys - zeros_of ys ≡ length xs - zeros_of xs = omega (arith, length-append xs (48 ∷ []), zeros_push xs 48) in
    ap (λ (n : ℕ). digits_value 10 (take n ys)) e
    ∙ ap (digits_value 10) (take-append-le (length xs - zeros_of xs) xs (48 ∷ []) (omega arith))

-- with another digit at the end, all digits count
significant_push : (xs : List ℕ) (b : ℕ) → is_zero_digit b ≡ false
    → significant_of (xs ++ b ∷ []) ≡ digits_value 10 xs * 10 + digit_value b
significant_push xs b other =
    let ys : List ℕ = xs ++ b ∷ [] in
    let e : length ys - zeros_of ys ≡ length ys = omega (arith, no_zeros_push xs b other) in
    ap (λ (n : ℕ). digits_value 10 (take n ys)) e ∙ ap (digits_value 10) (take-length ys) ∙ digits_value_push 10 xs b

-- the digits that count, and the zeros behind them, make the number
abbrev IsWhole : List ℕ → Type 0
IsWhole xs = digits_value 10 xs ≡ significant_of xs * 10 ^ zeros_of xs

regroup : (n p : ℕ) → n * p * 10 + 0 ≡ n * (p * 10)
regroup n p = grind arith

tens : (n p : ℕ) → n * p * 10 ≡ n * (p * 10)
tens n p = grind arith

whole_zero : (xs : List ℕ) → IsWhole xs → IsWhole (xs ++ 48 ∷ [])
whole_zero xs h =
    let power : 10 ^ (1 + zeros_of xs) ≡ 10 ^ zeros_of xs * 10 = ap (λ (k : ℕ). 10 ^ k) (omega arith) ∙ pow-suc 10 (zeros_of xs) in
    let left : digits_value 10 xs * 10 + 0 ≡ significant_of xs * (10 ^ zeros_of xs * 10) =
    ap (λ (v : ℕ). v * 10 + 0) h ∙ regroup (significant_of xs) (10 ^ zeros_of xs) in
    digits_value_push 10 xs 48 ∙ left
    ∙ sym (ap (λ (n : ℕ). n * 10 ^ zeros_of (xs ++ 48 ∷ [])) (significant_zero xs)
    ∙ ap (λ (z : ℕ). significant_of xs * 10 ^ z) (zeros_push xs 48) ∙ ap (λ (p : ℕ). significant_of xs * p) power)

whole_push : (xs : List ℕ) (b : ℕ) → IsWhole xs → IsWhole (xs ++ b ∷ [])
whole_push xs b h = elim (cases_Bool (is_zero_digit b)) [
  | inl zero ↦
      let e : b ≡ 48 = eqb-true b 48 zero in
      let P : ℕ → Type 0 = λ (c : ℕ). IsWhole (xs ++ c ∷ []) in
      subst P (sym e) (whole_zero xs h)
  | inr other ↦
      digits_value_push 10 xs b ∙ sym (significant_push xs b other)
      ∙ sym (ap (λ (z : ℕ). significant_of (xs ++ b ∷ []) * 10 ^ z) (no_zeros_push xs b other) ∙ omega arith)
]

whole_reversed : (ys : List ℕ) → IsWhole (reverse ys)
whole_reversed [] = refl
whole_reversed (y ∷ ys) = subst IsWhole (sym (reverse_onto ys y [])) (whole_push (reverse ys) y (whole_reversed ys))

pub is_whole : (xs : List ℕ) → IsWhole xs
is_whole xs = subst IsWhole (reverse-reverse xs) (whole_reversed (reverse xs))

-- facts about bytes of which some digits are kept
record IsKeptOf (text : List ℕ) (d : Digits) : Type 0 where
  each : list_all is_ascii_digit text ≡ true
  number : significant_of text ≡ d.number
  zeros : zeros_of text ≡ d.zeros

kept_parts : (text : List ℕ) (d : Digits) → kept_of text ≡ Some d → IsKeptOf text d
kept_parts text d kept =
    let both = cond_some (list_all is_ascii_digit text && ltb (significant_of text) (10 ^ 38))
    (record { number = significant_of text; zeros = zeros_of text }) d kept in
    let tests = and_parts (list_all is_ascii_digit text) (ltb (significant_of text) (10 ^ 38)) both.0 in
    record {
      each = tests.0;
      number = ap (λ (x : Digits). x.number) both.1;
      zeros = ap (λ (x : Digits). x.zeros) both.1;
    }

abbrev kept_by : List ℕ → Bool → Option Digits
kept_by text t = cond t (Some (record { number = significant_of text; zeros = zeros_of text })) None

kept_some : (text : List ℕ) → list_all is_ascii_digit text ≡ true → significant_of text < 10 ^ 38
    → kept_of text ≡ Some (record { number = significant_of text; zeros = zeros_of text })
kept_some text each short = ap (kept_by text) (and_from _ _ each (lt-ltb (significant_of text) (10 ^ 38) short))

kept_none : (text : List ℕ) → 10 ^ 38 ≤ significant_of text → kept_of text ≡ None
kept_none text long = ap (kept_by text) (and_right _ _ (le-ltb (significant_of text) (10 ^ 38) long))

-- what counts after a digit that is not 0
significant_more : (text : List ℕ) (d : Digits) (b : ℕ) → IsKeptOf text d → is_ascii_digit b ≡ true → b ≢ 48
    → significant_of (text ++ b ∷ []) ≡ d.number * 10 ^ (d.zeros + 1) + (b - 48)
significant_more text d b kept digit some =
    let other : is_zero_digit b ≡ false = ne_eqb b 48 some in
    let power : 10 ^ (d.zeros + 1) ≡ 10 ^ d.zeros * 10 = ap (λ (k : ℕ). 10 ^ k) (add-one d.zeros) ∙ pow-suc 10 d.zeros in
    let value : digits_value 10 text * 10 ≡ d.number * 10 ^ (d.zeros + 1) =
    ap (λ (v : ℕ). v * 10) (is_whole text ∙ ap (λ (n : ℕ). n * 10 ^ zeros_of text) kept.number ∙ ap (λ (z : ℕ). d.number * 10 ^ z) kept.zeros)
    ∙ tens d.number (10 ^ d.zeros) ∙ ap (λ (p : ℕ). d.number * p) (sym power) in
    significant_push text b other ∙ omega (arith, value, digit_worth b digit)

-- a number below 10^38 that ends in 0 leaves room for a last digit
short_tens : (n z b : ℕ) → is_ascii_digit b ≡ true → n * 10 ^ (z + 1) < 10 ^ 38 → n * 10 ^ (z + 1) + (b - 48) < 10 ^ 38
short_tens n z b digit fits =
    let power : n * 10 ^ (z + 1) ≡ n * 10 ^ z * 10 =
    ap (λ (k : ℕ). n * 10 ^ k) (add-one z) ∙ ap (λ (p : ℕ). n * p) (pow-suc 10 z) ∙ sym (tens n (10 ^ z)) in
    let range = and_parts (leb 48 b) (leb b 57) digit in
    let top : b ≤ 57 = leb-true b 57 range.1 in
    omega (arith, power, top, fits)

-- and a last digit that is not 0 is one
pub kept_number : (n z b : ℕ) → is_ascii_digit b ≡ true → b ≢ 48 → n * 10 ^ (z + 1) < 10 ^ 38
    → IsKept (record { number = n * 10 ^ (z + 1) + (b - 48); zeros = 0 })
kept_number n z b digit some fits =
    let power : n * 10 ^ (z + 1) ≡ n * 10 ^ z * 10 =
    ap (λ (k : ℕ). n * 10 ^ k) (add-one z) ∙ ap (λ (p : ℕ). n * p) (pow-suc 10 z) ∙ sym (tens n (10 ^ z)) in
    let range = and_parts (leb 48 b) (leb b 57) digit in
    let low : 48 ≤ b = leb-true 48 b range.0 in
    let top : b ≤ 57 = leb-true b 57 range.1 in
    let last : (n * 10 ^ (z + 1) + (b - 48)) % 10 ≡ b - 48 =
    ap (λ (x : ℕ). (x + (b - 48)) % 10) power ∙ mod-mul-add (n * 10 ^ z) 10 (b - 48) (omega arith) in
    record {
      short = short_tens n z b digit fits;
      lowest = inr (λ none. some (omega (arith, last, none, low)));
    }

pub kept_more : (text : List ℕ) (d : Digits) (b : ℕ) → kept_of text ≡ Some d → is_ascii_digit b ≡ true → b ≢ 48
    → d.number * 10 ^ (d.zeros + 1) < 10 ^ 38
    → kept_of (text ++ b ∷ []) ≡ Some (record { number = d.number * 10 ^ (d.zeros + 1) + (b - 48); zeros = 0 })
kept_more text d b kept digit some fits =
    let parts : IsKeptOf text d = kept_parts text d kept in
    let e = significant_more text d b parts digit some in
    let each : list_all is_ascii_digit (text ++ b ∷ []) ≡ true =
    list_all-append is_ascii_digit text (b ∷ []) ∙ and_from _ _ parts.each (and_from _ _ digit refl) in
    let short : significant_of (text ++ b ∷ []) < 10 ^ 38 = omega (arith, e, short_tens d.number d.zeros b digit fits) in
    kept_some (text ++ b ∷ []) each short
    ∙ ap (λ (n : ℕ). Some (record { number = n; zeros = zeros_of (text ++ b ∷ []) })) e
    ∙ ap (λ (z : ℕ). Some (record { number = d.number * 10 ^ (d.zeros + 1) + (b - 48); zeros = z })) (no_zeros_push text b (ne_eqb b 48 some))

pub kept_no_more : (text : List ℕ) (d : Digits) (b : ℕ) → kept_of text ≡ Some d → is_ascii_digit b ≡ true → b ≢ 48
    → 10 ^ 38 ≤ d.number * 10 ^ (d.zeros + 1) → kept_of (text ++ b ∷ []) ≡ None
kept_no_more text d b kept digit some long =
    let e = significant_more text d b (kept_parts text d kept) digit some in
    kept_none (text ++ b ∷ []) (omega (arith, e, long))

-- what counts does not lessen with more digits
significant_rises_push : (xs : List ℕ) (b : ℕ) → significant_of xs ≤ significant_of (xs ++ b ∷ [])
significant_rises_push xs b = elim (cases_Bool (is_zero_digit b)) [
  | inl zero ↦
      let e : b ≡ 48 = eqb-true b 48 zero in
      let P : ℕ → Type 0 = λ (c : ℕ). significant_of xs ≤ significant_of (xs ++ c ∷ []) in
      subst P (sym e) (omega (arith, significant_zero xs))
  | inr other ↦
      let some : 1 ≤ 10 ^ zeros_of xs = one-le-pow (zeros_of xs) 10 (omega arith) in
      let rise : significant_of xs ≤ significant_of xs * 10 ^ zeros_of xs = le-mul_of_pos_right (significant_of xs) some in
      omega (arith, significant_push xs b other, is_whole xs, rise)
]

significant_rises : (xs ys : List ℕ) → significant_of xs ≤ significant_of (xs ++ ys)
significant_rises xs [] = subst (λ (l : List ℕ). significant_of xs ≤ significant_of l) (sym (append-nil xs)) (omega arith)
significant_rises xs (y ∷ ys) =
    let P : List ℕ → Type 0 = λ (l : List ℕ). significant_of xs ≤ significant_of l in
    let step : significant_of xs ≤ significant_of (xs ++ y ∷ []) = significant_rises_push xs y in
    let more : significant_of (xs ++ y ∷ []) ≤ significant_of ((xs ++ y ∷ []) ++ ys) = significant_rises (xs ++ y ∷ []) ys in
    subst P (append_assoc xs (y ∷ []) ys) (omega (arith, step, more))

-- bytes of which nothing is kept are a prefix of no others
pub still_none : (xs ys : List ℕ) → kept_of xs ≡ None → kept_of (xs ++ ys) ≡ None
still_none xs ys none = elim (cases_Bool (list_all is_ascii_digit xs)) [
  | inl each ↦ elim (cases_lt (significant_of xs) (10 ^ 38)) [
    | inl short ↦ absurd (let e = kept_some xs each short in cc)
    | inr long ↦ kept_none (xs ++ ys) (omega (arith, long, significant_rises xs ys))
  ]
  | inr other ↦
      let each : list_all is_ascii_digit (xs ++ ys) ≡ false = list_all-append is_ascii_digit xs ys ∙ and_left _ _ other in
      ap (kept_by (xs ++ ys)) (and_left _ _ each)
]

-- if d is kept of some bytes, r is kept of these and i bytes more
abbrev pub IsSoFar : Digits → List ℕ → ℕ → Option Digits → Type 0
IsSoFar d bytes i r = (text : List ℕ) → kept_of text ≡ Some d → r ≡ kept_of (text ++ take i bytes)

pub starts : (d : Digits) (bytes : List ℕ) → IsSoFar d bytes 0 (Some d)
starts d bytes text kept = sym (ap kept_of (append-nil text) ∙ kept)

step_more : (text bytes : List ℕ) (i : ℕ) → i < length bytes
    → (text ++ take i bytes) ++ get_or bytes i 0 ∷ [] ≡ text ++ take (i + 1) bytes
step_more text bytes i there =
    append_assoc text (take i bytes) (get_or bytes i 0 ∷ []) ∙ ap (λ (l : List ℕ). text ++ l) (sym (take_more bytes i 0 there))

-- one step of the loop, whose push gives r
pub steps : (d e : Digits) (bytes : List ℕ) (i : ℕ) (r : Option Digits) → IsSoFar d bytes i (Some e) → i < length bytes
    → ((text : List ℕ) → kept_of text ≡ Some e → r ≡ kept_of (text ++ get_or bytes i 0 ∷ []))
    → IsSoFar d bytes (i + 1) r
steps d e bytes i r h there push text kept =
    push (text ++ take i bytes) (sym (h text kept)) ∙ ap kept_of (step_more text bytes i there)

-- if a step gives nothing, nothing is kept of the whole
pub stops : (d : Digits) (bytes : List ℕ) (i : ℕ) → IsSoFar d bytes i None
    → (text : List ℕ) → kept_of text ≡ Some d → None ≡ kept_of (text ++ bytes)
stops d bytes i h text kept =
    let e : (text ++ take i bytes) ++ drop i bytes ≡ text ++ bytes =
    append_assoc text (take i bytes) (drop i bytes) ∙ ap (λ (l : List ℕ). text ++ l) (take-append-drop i bytes) in
    sym (still_none (text ++ take i bytes) (drop i bytes) (sym (h text kept))) ∙ ap kept_of e

-- at the end, what is kept of the whole
pub ends : (d e : Digits) (bytes : List ℕ) → IsSoFar d bytes (length bytes) (Some e)
    → (text : List ℕ) → kept_of text ≡ Some d → Some e ≡ kept_of (text ++ bytes)
ends d e bytes h text kept = h text kept ∙ ap (λ (l : List ℕ). kept_of (text ++ l)) (take-length bytes)
