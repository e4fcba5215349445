-- What makes the spelling of an image one.
use Rattle.std.specs.Prelude.{◌≡◌, ℕ, List, ◌++◌}
use Rattle.ug_image.specs.declared.image.Image.{Image}
use Rattle.ug_image.specs.Images.{IsImage}
use Rattle.ug_image.specs.Spelling.{IsOfVersion, spelled_in}

-- Bytes that begin with an image's spelling in a version begin with no other image's, in no
-- version, and what follows it is the same. So each spelling is that of one image, and none begins
-- another.
abbrev pub SpellingsAreUnique : Type 0
SpellingsAreUnique = (version other : ℕ) (image another : Image) (r s : List ℕ)
    → IsImage image → IsOfVersion version image → IsImage another → IsOfVersion other another
    → spelled_in version image ++ r ≡ spelled_in other another ++ s
    → (version ≡ other) × (image ≡ another) × (r ≡ s)
