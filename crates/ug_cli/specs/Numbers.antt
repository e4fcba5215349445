-- Numbers on the command line.
use Rattle.std.specs.Prelude.{◌≡◌, ℕ, ◌≤◌, Option, None, Some}
use Rattle.std.specs.Fmt.{decimal}
use Rattle.clap.specs.Walk.{Text}

-- the word is the number in decimal digits, and the number is in the range
pub record IsNumber (least most : ℕ) (word : Text) (number : ℕ) : Type 0 where
  pub spelled : word ≡ decimal number
  pub low : least ≤ number
  pub high : number ≤ most

-- there is a word, and it is the number
abbrev pub IsGiven : ℕ → ℕ → Option Text → ℕ → Type 0
IsGiven least most None number = ⊥
IsGiven least most (Some word) number = IsNumber least most word number

-- the word is the number; without a word the number is this other one
abbrev pub IsGivenOr : ℕ → ℕ → ℕ → Option Text → ℕ → Type 0
IsGivenOr other least most None number = number ≡ other
IsGivenOr other least most (Some word) number = IsNumber least most word number

-- the word is the number; without a word there is no number
abbrev pub IsGivenIf : ℕ → ℕ → Option Text → Option ℕ → Type 0
IsGivenIf least most None number = number ≡ None
IsGivenIf least most (Some word) None = ⊥
IsGivenIf least most (Some word) (Some number) = IsNumber least most word number
