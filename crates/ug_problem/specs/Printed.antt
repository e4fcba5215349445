-- How a value is printed.
use Rattle.std.specs.Prelude.{◌≡◌, ◌≢◌, ℕ, ℤ, pos, negsuc, neg_ℤ, ◌*◌, ◌-◌, ◌/◌, ◌%◌, ◌^◌, ◌≤◌, ◌⊎◌}
use Rattle.std.specs.Prelude.{List, [], ◌∷◌, ◌++◌, length, unsigned_abs, if◌then◌else◌}
use Rattle.std.specs.Fmt.{decimal}
use Rattle.std.specs.Str.Parse.{AllDigits, digits_value}
use Rattle.ug_rows.specs.declared.row.Objective.{Objective}

-- number / 10^scale is digits / 10^places in lowest terms
pub record IsLowest (scale number digits places : ℕ) : Type 0 where
  pub within : places ≤ scale
  pub equal : number ≡ digits * 10 ^ (scale - places)
  pub lowest : (places ≡ 0) ⊎ (digits % 10 ≢ 0)

-- the spelling is `count` decimal digits, and reads as the number
pub record AreDigitsOf (count number : ℕ) (text : List ℕ) : Type 0 where
  pub count_is : length text ≡ count
  pub each : AllDigits 10 text
  pub reads : digits_value 10 text ≡ number

-- a minus sign for a number below 0
abbrev pub sign_of : ℤ → List ℕ
sign_of (pos n) = []
sign_of (negsuc n) = 45 ∷ []

-- a point and the digits after it, if there are any
abbrev pub fraction_of : List ℕ → List ℕ
fraction_of [] = []
fraction_of (d ∷ ds) = 46 ∷ d ∷ ds

-- it spells z / 10^scale in lowest terms: its sign, its whole part, and its fraction
pub record IsSpelled (scale : ℕ) (z : ℤ) (text : List ℕ) : Type 0 where
  pub digits : ℕ
  pub places : ℕ
  pub fraction : List ℕ
  pub lowest : IsLowest scale (unsigned_abs z) digits places
  pub after_point : AreDigitsOf places (digits % 10 ^ places) fraction
  pub text_is : text ≡ sign_of z ++ decimal (digits / 10 ^ places) ++ fraction_of fraction

-- the value as the user reads it: negated where the user maximises
abbrev pub shown_of : Objective → ℤ → ℤ
shown_of objective value = (if objective.maximise then neg_ℤ value else value)

-- it is what is printed of the value
abbrev pub IsPrinted : Objective → ℤ → List ℕ → Type 0
IsPrinted objective value text = IsSpelled objective.scale (shown_of objective value) text
