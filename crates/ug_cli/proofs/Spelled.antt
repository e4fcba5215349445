-- The spelling of a number is what reads as it and is plain.
use Rattle.std.proofs.Common.{◌≡◌, ◌≢◌, ℕ, ◌<◌, ◌≤◌, ◌^◌, List, Result, Ok, length, get_or, slice_index, zero, suc, ap, sym, ◌∙◌, subst, arith}
use Rattle.std.specs.Fmt.{decimal}
use Rattle.std.specs.Int.{IsInRange}
use Rattle.std.specs.Str.Parse.{AllDigits, digits_value, ParsesUnsigned}
use Rattle.std.specs.Result.{OkIff}
use Rattle.std.proofs.lemmas.Str.Parse.{IsNumeralModel, numerals_by_value, tells_digits, parse_plain, not_in_digits}
use Rattle.std.proofs.lemmas.Fmt.{decimal-digits_value, digits_decimal, decimal_nonempty, first_decimal, decimal_digit, parse-decimal}
use Rattle.ug_cli.specs.Numbers.{IsNumber}

-- the word begins with no sign, and with a zero only where that is all of it
abbrev pub IsPlain : List ℕ → Type 0
IsPlain word = (slice_index word 0 ≢ 43) × (slice_index word 0 ≡ 48 → length word ≡ 1)

own : IsNumeralModel (AllDigits 10) (digits_value 10)
own = numerals_by_value (AllDigits 10) tells_digits

-- a plain word that reads as a number of the range spells it
pub number_from_read : {E : Type 0} (least most : ℕ) (word : List ℕ) (r : Result ℕ E) (n : ℕ) → ParsesUnsigned 64 10 word r
    → r ≡ Ok n → least ≤ n → n ≤ most → IsPlain word → IsNumber least most word n
number_from_read {E} least most word r n h e low high plain =
    let Reads : Type 0 = AllDigits 10 word × (0 < length word) × (digits_value 10 word < 2 ^ 64) in
    let read : Reads × (n ≡ digits_value 10 word) =
    subst (λ (q : Result ℕ E). OkIff q Reads (digits_value 10 word)) e (parse_plain own 64 word r h plain.0) in
    record {
      spelled = sym (ap decimal read.1 ∙ decimal-digits_value own word read.0.0 read.0.1 plain.1 read.0.2);
      low = low;
      high = high;
    }

-- the spelling of a number is plain
plain_decimal : (n : ℕ) → n < 2 ^ 64 → IsPlain (decimal n)
plain_decimal n wide =
    let no_sign : get_or (decimal n) 0 0 ≢ 43 =
    not_in_digits own (decimal n) 43 (digits_decimal own n wide) (λ (r : IsInRange 48 57 43). omega (arith, r)) 0 (decimal_nonempty n wide) in
    (no_sign, one n wide)
  where
    one : (n : ℕ) → n < 2 ^ 64 → get_or (decimal n) 0 0 ≡ 48 → length (decimal n) ≡ 1
    one zero wide e = ap length (decimal_digit 0 (omega arith))
    one (suc m) wide e = absurd (omega (arith, e, first_decimal (suc m) (omega arith) wide))

pub plain_from_number : (least most : ℕ) (word : List ℕ) (n : ℕ) → most < 2 ^ 64 → IsNumber least most word n → IsPlain word
plain_from_number least most word n wide number = subst IsPlain (sym number.spelled) (plain_decimal n (omega (arith, number.high)))

-- and reads as it
pub read_from_number : {E : Type 0} (least most : ℕ) (word : List ℕ) (r : Result ℕ E) (n : ℕ) → most < 2 ^ 64
    → IsNumber least most word n → ParsesUnsigned 64 10 word r → r ≡ Ok n
read_from_number least most word r n wide number h =
    parse-decimal 64 n word r (omega (arith, number.high)) (omega (arith, number.high)) number.spelled h
