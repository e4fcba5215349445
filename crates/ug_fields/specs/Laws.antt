-- Each field that is spelled is read back, and what is read was spelled.
use Rattle.std.specs.Prelude.{◌≡◌, ℕ, pos, ◌<◌, ◌≤◌, ◌^◌, List, [], ◌∷◌, length, true, IfSome}
use Rattle.std.specs.Prelude.{FitsSigned, unsigned_abs, ◌≤ℤ◌}
use Rattle.std.specs.List.{All}
use Rattle.std.specs.Int.{w32}
use Rattle.ug_lines.specs.Words.{is_word_byte}
use Rattle.ug_fields.specs.Reading.{small_at, count_at, unsigned_at, signed_at, bound_at, long_at}
use Rattle.ug_fields.specs.Reading.{number_at, amount_at, name_at, optional_at}
use Rattle.ug_fields.specs.Readers.{IsReader}
use Rattle.ug_fields.specs.Spelling.{count_field, bound_field, long_field, number_field}
use Rattle.ug_fields.specs.Spelling.{name_field, optional_field}

-- a name: 1 to 255 bytes of a word
pub record IsNameField (name : List ℕ) : Type 0 where
  pub some : 1 ≤ length name
  pub short : length name ≤ 255
  pub bytes : All (λ b. is_word_byte b ≡ true) name

-- each reader is one of its field, for the values within its limits
pub record FieldsAreRead : Type 0 where
  pub small : (least most : ℕ)
      → IsReader (λ b. (least ≤ b) × (b ≤ most)) (λ b. b ∷ []) (small_at least most)
  pub count : (most : ℕ)
      → IsReader (λ n. (n ≤ most) × (n < 2 ^ 32)) count_field (count_at most)
  pub unsigned : IsReader (λ n. n < 2 ^ 32) count_field unsigned_at
  pub signed : IsReader (FitsSigned w32) bound_field signed_at
  pub bound : IsReader (λ z. unsigned_abs z ≤ 10 ^ 9) bound_field bound_at
  pub long : (least : ℕ) → IsReader (λ n. (least ≤ n) × (n < 2 ^ 64)) long_field (long_at least)
  pub number : (most : ℕ) → most < 2 ^ 127
      → IsReader (λ z. unsigned_abs z ≤ most) number_field (number_at most)
  pub amount : (most : ℕ) → most < 2 ^ 127
      → IsReader (λ z. (unsigned_abs z ≤ most) × (pos 0 ≤ℤ z)) number_field (amount_at most)
  pub name : IsReader IsNameField name_field name_at
  pub optional : (most : ℕ) → most < 2 ^ 127
      → IsReader (λ s. IfSome s (λ z. unsigned_abs z ≤ most)) optional_field (optional_at most)
