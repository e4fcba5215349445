-- Exact decimal numbers, and the words that spell them.
use Rattle.std.specs.Prelude.{◌≡◌, ◌≢◌, ℕ, ℤ, pos, neg_ℤ, ◌+ℤ◌, ◌-ℤ◌, ◌-◌, ◌%◌, ◌^◌, ◌<◌, ◌≤◌, ◌⊎◌}
use Rattle.std.specs.Prelude.{◌==◌, ◌&&◌, ◌||◌, not, nat_lt, nat_le, Bool, false, List, [], ◌∷◌}
use Rattle.std.specs.Prelude.{◌++◌, length, take, drop, Option, Some, None, unsigned_abs}
use Rattle.std.specs.Prelude.{if◌then◌else◌}
use Rattle.std.specs.Char.{is_ascii_digit}
use Rattle.std.specs.Float.Parse.{without_sign}
use Rattle.std.specs.List.{after_first, before_first, list_all, position_or_len, suffix_len}
use Rattle.std.specs.Option.{option_and_then, option_map}
use Rattle.std.specs.Str.Parse.{digits_value, starts_with_minus}
use Rattle.ug_problem.specs.declared.decimal.Decimal.{Decimal}

-- the number 0
abbrev pub zero_decimal : Decimal
zero_decimal = record { negative = false; digits = 0; power = pos 0 }

-- at most 38 digits, the last of which is not 0, or the number 0; and a power near 0
pub record IsDecimal (d : Decimal) : Type 0 where
  pub short : d.digits < 10 ^ 38
  pub near : unsigned_abs d.power ≤ 20000
  pub lowest : (d.digits % 10 ≢ 0) ⊎ (d ≡ zero_decimal)

-- e, E, d or D, with which an exponent begins
abbrev pub is_exponent_letter : ℕ → Bool
is_exponent_letter b = (b == 101 || b == 69) || (b == 100 || b == 68)

-- a decimal point
abbrev pub is_point : ℕ → Bool
is_point b = b == 46

-- the digit 0
abbrev pub is_zero_digit : ℕ → Bool
is_zero_digit b = b == 48

-- one digit or more, and nothing else
abbrev pub are_digits : List ℕ → Bool
are_digits text = not (length text == 0) && list_all is_ascii_digit text

-- n, negated where it is to be negative
abbrev pub signed : Bool → ℕ → ℤ
signed negative n = if negative then neg_ℤ (pos n) else pos n

-- the number of zeros at the end of the digits
abbrev pub zeros_of : List ℕ → ℕ
zeros_of digits = suffix_len is_zero_digit digits

-- the number that the digits spell without the zeros at their end
abbrev pub significant_of : List ℕ → ℕ
significant_of digits = digits_value 10 (take (length digits - zeros_of digits) digits)

-- the number n times ten to the power, where n does not end in 0 unless it is 0
abbrev pub decimal_from : Bool → ℕ → ℤ → Decimal
decimal_from negative n power = if n == 0 then zero_decimal
    else record { negative = negative; digits = n; power = power }

-- the number that digits spell, the last of which is worth ten to the power, if at most 38 of them
-- count
abbrev pub number_of : Bool → List ℕ → ℤ → Option Decimal
number_of negative digits power =
    if are_digits digits && nat_lt (significant_of digits) (10 ^ 38)
    then Some (decimal_from negative (significant_of digits) (power +ℤ pos (zeros_of digits)))
    else None

-- the number that digits with at most one point spell, times ten to the exponent
abbrev pub pointed_of : Bool → List ℕ → ℤ → Option Decimal
pointed_of negative text exponent =
    number_of negative (before_first is_point text ++ after_first is_point text)
    (exponent -ℤ pos (length (after_first is_point text)))

-- the number that an optional sign and digits with at most one point spell, times ten to the
-- exponent
abbrev pub mantissa_of : List ℕ → ℤ → Option Decimal
mantissa_of text exponent = pointed_of (starts_with_minus text) (without_sign text) exponent

-- the number that digits spell, if it is at most 9,999
abbrev pub small_of : List ℕ → Option ℕ
small_of digits = if are_digits digits && nat_le (digits_value 10 digits) 9999
    then Some (digits_value 10 digits) else None

-- the exponent that a letter, an optional sign and digits spell: 0 where nothing is written
abbrev pub exponent_of : List ℕ → Option ℤ
exponent_of [] = Some (pos 0)
exponent_of (letter ∷ text) =
    option_map (signed (starts_with_minus text)) (small_of (without_sign text))

-- the exponent of a word, from its letter on
abbrev pub ending_of : List ℕ → List ℕ
ending_of word = drop (position_or_len is_exponent_letter word) word

-- the number that a word spells
abbrev pub decimal_of : List ℕ → Option Decimal
decimal_of word = option_and_then (mantissa_of (before_first is_exponent_letter word))
    (exponent_of (ending_of word))
