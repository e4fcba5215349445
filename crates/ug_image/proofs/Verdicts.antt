-- What reading an image reports about the bytes.
use Rattle.std.proofs.Common.{◌≡◌, ℕ, ◌-◌, List, length, Ok, Err, ◌∙◌, ap, arith}
use Rattle.ug_rows.specs.declared.area.Interval.{Interval}
use Rattle.ug_nodes.specs.declared.change.Change.{Change}
use Rattle.ug_nodes.specs.Changes.{IsRising}
use Rattle.ug_fields.specs.Readers.{IsBytes}
use Rattle.ug_fields.proofs.Runs.{many_reader}
use Rattle.ug_image.specs.declared.image.Image.{Image}
use Rattle.ug_image.specs.Answers.{IsFirstBad}
use Rattle.ug_image.specs.Laws.{SpellingsAreUnique}
use Rattle.ug_image.specs.Reading.{changes_from, image_at}
use Rattle.ug_image.specs.Reading as read
use Rattle.ug_image.specs.Spelling.{Spell, change_fields}
use Rattle.ug_image.proofs.Changed.{IsNextChange, change_reader, past}
use Rattle.ug_image.proofs.Entire.{image_again, image_cut, image_taken, image_within}
use Rattle.ug_image.proofs.Wholes.{image_is_read, read_is_image, rises}

pub what_is_read : (bytes : List ℕ) (image : Image) → IsBytes bytes → image_at bytes ≡ Ok image
    → Spell bytes image
what_is_read bytes image h e =
    let t = image_taken bytes image h e in
    let is = read_is_image t.0 image t.2 in
    record { is = is.0; version = t.0; says = is.1; spelling = t.1 }

pub image_is_told : (bytes : List ℕ) (image : Image) → Spell bytes image
    → image_at bytes ≡ Ok image
image_is_told bytes image spell =
    ap image_at spell.spelling
    ∙ image_again spell.version image (image_is_read spell.version image spell.is spell.says)

pub no_image : (bytes : List ℕ) (left : ℕ) → image_at bytes ≡ Err left → (image : Image)
    → ¬ Spell bytes image
no_image bytes left e image spell =
    let other = image_is_told bytes image spell in absurd (cc (e, other))

pub one_image : (bytes : List ℕ) (image other : Image) → image_at bytes ≡ Ok image
    → Spell bytes other → image ≡ other
one_image bytes image other e spell =
    let told = image_is_told bytes other spell in cc (e, told)

pub first_bad : (bytes : List ℕ) (left : ℕ) → IsBytes bytes → image_at bytes ≡ Err left
    → IsFirstBad bytes (length bytes - left)
first_bad bytes left h e =
    let within = image_within bytes left h e in
    let again : left ≡ length bytes - (length bytes - left) = omega (arith, within) in
    (omega arith, e ∙ ap Err again)

pub spellings_are_unique : SpellingsAreUnique
spellings_are_unique version other image another r s is of is_other of_other same =
    let cut = image_cut version other image another r s (image_is_read version image is of)
    (image_is_read other another is_other of_other) same in
    let first : version ≡ other = cc same in
    (first, cut.0, cut.1)

pub changes_rise : (root : List Interval) (n : ℕ) (bytes rest : List ℕ) (changes : List Change)
    (least : ℕ) → IsBytes bytes → changes_from root n bytes ≡ Ok ((changes, least), rest)
    → IsRising changes
changes_rise root n bytes rest changes least h e =
    let t = (many_reader (read.change_at root) past (IsNextChange root) change_fields
    (change_reader root) n 0).taken bytes (changes, least) rest h e in
    rises root 0 changes t.1.1
