-- The value of digits while they are read.
use Rattle.std.specs.Prelude.{◌≡◌, ◌≢◌, ℕ, ◌^◌, ◌%◌, ◌<◌, ◌⊎◌, ◌&&◌, ◌==◌, nat_lt, List, length}
use Rattle.std.specs.Prelude.{Option, Some, None, if◌then◌else◌}
use Rattle.std.specs.Char.{is_ascii_digit}
use Rattle.std.specs.List.{list_all}
use Rattle.ug_problem.specs.declared.decimal.digits.Digits.{Digits}
use Rattle.ug_problem.specs.Decimals.{significant_of, zeros_of}

-- the value of a word, if it has digits alone and at most 38 of them count
abbrev pub kept_of : List ℕ → Option Digits
kept_of text =
    if list_all is_ascii_digit text && nat_lt (significant_of text) (10 ^ 38)
    then Some (record { number = significant_of text; zeros = zeros_of text }) else None

-- the same, if there is a digit at all
abbrev pub read_of : List ℕ → Option Digits
read_of text = if length text == 0 then None else kept_of text

-- at most 38 digits, and no zero at their end
pub record IsKept (d : Digits) : Type 0 where
  pub short : d.number < 10 ^ 38
  pub lowest : (d.number ≡ 0) ⊎ (d.number % 10 ≢ 0)
