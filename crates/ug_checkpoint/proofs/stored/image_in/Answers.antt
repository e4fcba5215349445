use Rattle.std.proofs.Common.{◌≡◌, ℕ, ◌+◌, List, refl, inr, subst, rules}
use Rattle.ug_image.specs.declared.error.ImageError.{ImageError}
use Rattle.ug_image.specs.declared.error.ImageError.TheVariants.{BadAt}
use Rattle.ug_image.specs.Answers.{IsRefused}
use Rattle.ug_checkpoint.specs.Gates.{IsOpen}
use Rattle.ug_checkpoint.specs.Bodies.{IsBad, IsWhole, stored}
use Rattle.ug_checkpoint.proofs.stored.image_in.Goals as goal

-- the image's first bad field, in its slot
bad : (slot spelling : List ℕ) (at : ℕ) → IsOpen slot → IsWhole slot → spelling ≡ stored slot
    → IsRefused spelling (BadAt at) → IsBad slot (at + 9)
bad slot spelling at opened whole is refused =
    let told = subst (λ (l : List ℕ). IsRefused l (BadAt at)) is refused in
    record {
      opened = opened;
      none = λ image has. told.1 image has.spells;
      place = inr (whole, (at, told.0, refl));
    }

pub returns-in-Err-BadAt-clause-err : goal.returns-in-Err-BadAt-clause-err
returns-in-Err-BadAt-clause-err c = (
  refl,
  bad c.args.bytes.now c.in-Some.spelling.now c.in-Err-BadAt.at (search rules)
      (search rules) (search rules) (subst (λ (e : ImageError). IsRefused c.in-Some.spelling.now e)
      c.in-Err-BadAt.field-0-is c.in-Err-BadAt.ensures.refused),
)
