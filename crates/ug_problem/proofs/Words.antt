-- The number that the digits of a word make.
use Rattle.std.proofs.Common.{◌≡◌, ◌∙◌, sym, ap, subst, refl, ℕ, ℤ, pos, ◌+ℤ◌, ◌+◌, ◌-◌, ◌≤◌, ◌==◌, ◌&&◌, not, ltb, ◌^◌, Bool, true, false, cond, List, length, take, drop, Some, None, unsigned_abs, arith}
use Rattle.std.specs.Char.{is_ascii_digit}
use Rattle.std.specs.List.{before_first, list_all, position_or_len}
use Rattle.std.specs.Option.{option_and_then, option_map}
use Rattle.std.proofs.Math.Seq.{take-length}
use Rattle.std.proofs.lemmas.Int.{fits_signed_from_abs, to_z-of_z}
use Rattle.std.proofs.lemmas.List.{length-drop, length-take}
use mir.Syntax.{w32}
use mir.Val.{of_z, to_z}
use Rattle.ug_problem.specs.declared.decimal.digits.Digits.{Digits}
use Rattle.ug_problem.specs.Decimals.{decimal_from, decimal_of, exponent_of, is_exponent_letter, mantissa_of, number_of, significant_of, zeros_of}
use Rattle.ug_problem.specs.Digits.{read_of}

-- two ways to write three tests
three_tests : {A B : Type 0} (f : A → B) (x : A) (a b c : Bool)
    → cond ((not a && b) && c) (Some (f x)) None ≡ option_map f (cond a None (cond (b && c) (Some x) None))
three_tests f x true b c = refl
three_tests f x false true true = refl
three_tests f x false true false = refl
three_tests f x false false c = refl

number_is : (negative : Bool) (digits : List ℕ) (power : ℤ)
    → number_of negative digits power ≡ option_map (λ (d : Digits). decimal_from negative d.number (power +ℤ pos d.zeros)) (read_of digits)
number_is negative digits power =
    three_tests (λ (d : Digits). decimal_from negative d.number (power +ℤ pos d.zeros))
    (record { number = significant_of digits; zeros = zeros_of digits })
    (length digits == 0) (list_all is_ascii_digit digits) (ltb (significant_of digits) (10 ^ 38))

pub number_some : (negative : Bool) (digits : List ℕ) (power : ℤ) (d : Digits) → read_of digits ≡ Some d
    → number_of negative digits power ≡ Some (decimal_from negative d.number (power +ℤ pos d.zeros))
number_some negative digits power d e =
    number_is negative digits power ∙ ap (option_map (λ (d : Digits). decimal_from negative d.number (power +ℤ pos d.zeros))) e

pub number_none : (negative : Bool) (digits : List ℕ) (power : ℤ) → read_of digits ≡ None → number_of negative digits power ≡ None
number_none negative digits power e =
    number_is negative digits power ∙ ap (option_map (λ (d : Digits). decimal_from negative d.number (power +ℤ pos d.zeros))) e

-- the bytes before and behind a place are no longer than the whole word
pub pieces_fit : (text : List ℕ) (i : ℕ) → length (take i text) + length (drop (i + 1) text) ≤ length text
pieces_fit text i = omega (arith, length-take i text, length-drop (i + 1) text)

-- a small exponent is what it is as an i32
pub narrow : (e : ℤ) → unsigned_abs e ≤ 9999 → to_z w32 (of_z w32 e) ≡ e
narrow e small = to_z-of_z w32 e (fits_signed_from_abs w32 e (omega (arith, small)))

-- a slice from n on
pub slice_from : (xs : List ℕ) (n : ℕ) → take (length xs - n) (drop n xs) ≡ drop n xs
slice_from xs n = ap (λ (k : ℕ). take k (drop n xs)) (sym (length-drop n xs)) ∙ take-length (drop n xs)

-- a word's number is its mantissa's at its exponent
pub decimal_at : (word : List ℕ) (start : ℕ) (e : ℤ) → start ≡ position_or_len is_exponent_letter word
    → Some e ≡ exponent_of (drop start word) → decimal_of word ≡ mantissa_of (take start word) e
decimal_at word start e at exponent =
    let P : ℕ → Type 0 = λ (i : ℕ). Some e ≡ exponent_of (drop i word) in
    ap (option_and_then (mantissa_of (before_first is_exponent_letter word))) (sym (subst P at exponent))
    ∙ ap (λ (i : ℕ). mantissa_of (take i word) e) (sym at)
