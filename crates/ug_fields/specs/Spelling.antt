-- The bytes of a field. All numbers stand with their high byte first, signed ones in two's
-- complement.
use Rattle.std.specs.Prelude.{ℕ, ℤ, List, [], ◌∷◌, length, Option, None, Some}
use Rattle.std.specs.Int.{w32, w64, w128, to_be_bytes, cast_unsigned}

-- a number in four bytes, as a count or a column
unfoldable pub count_field : ℕ → List ℕ
count_field n = to_be_bytes w32 n

-- a signed number in four bytes, as a bound
unfoldable pub bound_field : ℤ → List ℕ
bound_field z = to_be_bytes w32 (cast_unsigned w32 z)

-- a number in eight bytes
unfoldable pub long_field : ℕ → List ℕ
long_field n = to_be_bytes w64 n

-- a signed number in sixteen bytes
unfoldable pub number_field : ℤ → List ℕ
number_field z = to_be_bytes w128 (cast_unsigned w128 z)

-- a name: its length in one byte, and the name
abbrev pub name_field : List ℕ → List ℕ
name_field name = length name ∷ name

-- a value or none: 0 where there is none, or 1 and the value
abbrev pub flagged_field : {X : Type 0} → (X → List ℕ) → Option X → List ℕ
flagged_field field None = 0 ∷ []
flagged_field field (Some x) = 1 ∷ field x

-- a number or none
abbrev pub optional_field : Option ℤ → List ℕ
optional_field number = flagged_field number_field number
