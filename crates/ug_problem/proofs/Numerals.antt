-- Places in a word, and small numbers.
use Rattle.std.proofs.Common.{◌≡◌, ◌∙◌, ap, refl, ℕ, ◌+◌, ◌-◌, ◌*◌, ◌<◌, ◌≤◌, ◌&&◌, not, ltb, leb, Bool, true, false, cond, List, length, take, get_or, Some, None, position, unwrap_or, inl, inr, arith}
use Rattle.std.specs.Char.{digit_value, is_ascii_digit}
use Rattle.std.specs.List.{list_all, position_or_len}
use Rattle.std.specs.Str.Parse.{digits_value}
use Rattle.std.proofs.lemmas.Bool.{leb-true, lt-leb, lt-ltb, le-ltb, and_parts, and_from, and_left, and_right, cases_lt}
use Rattle.std.proofs.lemmas.Int.Digits.{digits_value_more}
use Rattle.std.proofs.lemmas.List.Folds.{list_all_at, list_all_more}
use Rattle.std.proofs.lemmas.List.Sums.{prefix_len-le-length}
use Rattle.std.proofs.lemmas.Str.{digit_value_digit}
use Rattle.std.proofs.lemmas.Str.Parse.{digits_value-take-le}
use Rattle.ug_problem.specs.Decimals.{are_digits, small_of}

end_or : (n end : ℕ) → n ≤ end → unwrap_or (cond (ltb n end) (Some n) None) end ≡ n
end_or n end within = elim (cases_lt n end) [
  | inl less ↦ rw (lt-ltb n end less) refl
  | inr same ↦ rw (le-ltb n end same) (omega arith)
]

-- the first place, or the end
pub place_within : (p : ℕ → Bool) (xs : List ℕ)
    → (unwrap_or (position p xs) (length xs) ≡ position_or_len p xs) × (position_or_len p xs ≤ length xs)
place_within p xs =
    let within : position_or_len p xs ≤ length xs = prefix_len-le-length (λ (x : ℕ). not (p x)) xs in
    (end_or (position_or_len p xs) (length xs) within, within)

-- what a digit is worth
pub digit_worth : (b : ℕ) → is_ascii_digit b ≡ true → digit_value b ≡ b - 48
digit_worth b digit =
    let parts = and_parts (leb 48 b) (leb b 57) digit in
    omega (arith, digit_value_digit b (leb-true 48 b parts.0, leb-true b 57 parts.1))

-- the first i digits are digits, and spell a small number
pub record IsSoFar (digits : List ℕ) (i number : ℕ) : Type 0 where
  pub each : list_all is_ascii_digit (take i digits) ≡ true
  pub value : number ≡ digits_value 10 (take i digits)
  pub small : number ≤ 9999

-- what one digit more makes
more_value : (digits : List ℕ) (i number : ℕ) → number ≡ digits_value 10 (take i digits) → i < length digits
    → is_ascii_digit (get_or digits i 0) ≡ true
    → number * 10 + (get_or digits i 0 - 48) ≡ digits_value 10 (take (i + 1) digits)
more_value digits i number value there digit =
    let more = digits_value_more 10 digits i there in
    let worth = digit_worth (get_or digits i 0) digit in
    omega (arith, more, worth, value)

pub one_digit_more : (digits : List ℕ) (i number : ℕ) → IsSoFar digits i number → i < length digits
    → is_ascii_digit (get_or digits i 0) ≡ true → number * 10 + (get_or digits i 0 - 48) ≤ 9999
    → IsSoFar digits (i + 1) (number * 10 + (get_or digits i 0 - 48))
one_digit_more digits i number h there digit small = record {
  each = list_all_more is_ascii_digit digits i 0 there ∙ and_from _ _ h.each digit;
  value = more_value digits i number h.value there digit;
  small = small;
}

not_small_of : (digits : List ℕ) → (are_digits digits && leb (digits_value 10 digits) 9999) ≡ false → small_of digits ≡ None
not_small_of digits e = ap (λ (t : Bool). cond t (Some (digits_value 10 digits)) None) e

pub not_digits : (digits : List ℕ) (i : ℕ) → i < length digits → is_ascii_digit (get_or digits i 0) ≡ false
    → small_of digits ≡ None
not_digits digits i there other =
    not_small_of digits (and_left _ _ (and_right _ _ (list_all_at is_ascii_digit digits i 0 there other)))

pub not_small : (digits : List ℕ) (i number : ℕ) → IsSoFar digits i number → i < length digits
    → is_ascii_digit (get_or digits i 0) ≡ true → 9999 < number * 10 + (get_or digits i 0 - 48)
    → small_of digits ≡ None
not_small digits i number h there digit large =
    let more = more_value digits i number h.value there digit in
    let rise = digits_value-take-le 10 digits (i + 1) (omega arith) in
    let above : 9999 < digits_value 10 digits = omega (arith, more, rise, large) in
    not_small_of digits (and_right _ _ (lt-leb _ _ above))
