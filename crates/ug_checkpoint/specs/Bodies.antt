-- The bytes of a slot: the gate, the length of an image in eight bytes, and the image.
use Rattle.std.specs.Prelude.{◌≡◌, ◌⊎◌, ℕ, ◌+◌, ◌≤◌, List, ◌++◌, length, take, drop, Option, None}
use Rattle.std.specs.Prelude.{Some}
use Rattle.std.specs.Int.{w64, from_be_bytes}
use Rattle.ug_checkpoint.specs.Gates.{IsOpen}
use Rattle.ug_image.specs.declared.image.Image.{Image}
use Rattle.ug_image.specs.Answers.{IsFirstBad}
use Rattle.ug_fields.specs.Spelling.{long_field}
use Rattle.ug_image.specs.Spelling.{Spell, spelled}

-- the body of a checkpoint: how many bytes the image has, and these
abbrev pub body_of : Image → List ℕ
body_of image = long_field (length (spelled image)) ++ spelled image

-- how many bytes the image has, by the field behind the gate
abbrev pub counted : List ℕ → ℕ
counted slot = from_be_bytes w64 (take 8 (drop 1 slot))

-- the field is there, and this many bytes behind it
abbrev pub IsWhole : List ℕ → Type 0
IsWhole slot = 9 + counted slot ≤ length slot

-- these bytes; what follows them is not examined
abbrev pub stored : List ℕ → List ℕ
stored slot = take (counted slot) (drop 9 slot)

-- the slot is open, and its bytes spell the image
pub record Has (slot : List ℕ) (image : Image) : Type 0 where
  pub opened : IsOpen slot
  pub whole : IsWhole slot
  pub spells : Spell (stored slot) image

-- the slot has this image, or it is shut
abbrev pub Stores : List ℕ → Option Image → Type 0
Stores slot None = ¬ IsOpen slot
Stores slot (Some image) = Has slot image

-- the first bad field of what the slot has begins there: the length, where it is cut short or goes
-- past the end; else a field of the image
abbrev pub IsBadField : List ℕ → ℕ → Type 0
IsBadField slot at = ((¬ IsWhole slot) × (at ≡ 1))
    ⊎ (IsWhole slot × ((k : ℕ) × IsFirstBad (stored slot) k × (at ≡ k + 9)))

-- the slot is open and spells no image, and its first bad field begins there
pub record IsBad (slot : List ℕ) (at : ℕ) : Type 0 where
  pub opened : IsOpen slot
  pub none : (image : Image) → ¬ Has slot image
  pub place : IsBadField slot at
