-- What a reader answers.
use Rattle.std.specs.Prelude.{◌≡◌, ℕ, ◌-◌, ◌≤◌, List, length, Err}
use Rattle.ug_image.specs.declared.image.Image.{Image}
use Rattle.ug_image.specs.declared.error.ImageError.{ImageError}
use Rattle.ug_image.specs.declared.error.ImageError.TheVariants.{Memory, BadAt}
use Rattle.ug_image.specs.Reading.{image_at}
use Rattle.ug_image.specs.Spelling.{Spell}

-- read from left to right, the first field that is cut short or breaks a rule begins there
abbrev pub IsFirstBad : List ℕ → ℕ → Type 0
IsFirstBad bytes at = (at ≤ length bytes) × (image_at bytes ≡ Err (length bytes - at))

-- why the bytes are refused, if it is not for memory: they spell no image, and the first bad field
-- begins there
abbrev pub IsRefused : List ℕ → ImageError → Type 0
IsRefused bytes Memory = Unit {0}
IsRefused bytes (BadAt at) = IsFirstBad bytes at × ((image : Image) → ¬ Spell bytes image)
