-- What was held at a moment, to be saved.
use Rattle.std.specs.Prelude.{◌≡◌, ℕ}
use Rattle.ug_image.specs.declared.image.Image.{Image}
use Rattle.ug_image.specs.Images.{IsImage}
use Rattle.ug_snapshot.specs.Moments.{IsCovered}
use Rattle.ug_book.specs.declared.opening.Opening.{Opening}
use Rattle.ug_book.specs.Openings.{IsCoveredOpening}

-- what the desk began with, the image of then under sequence 1, and how many calls its history had
pub record SnapshotState : Type 0 where
  pub opening : Opening
  pub image : Image
  pub count : ℕ

-- the image is one of the opening's problem, run and gap; if the opening is covered so is the
-- image: each better point lies in one of its nodes
pub record IsSnapshot (s : SnapshotState) : Type 0 where
  pub savable : IsImage s.image
  pub problem : s.image.problem ≡ s.opening.problem
  pub run : s.image.run ≡ s.opening.run
  pub gap : s.image.gap ≡ s.opening.settings.gap
  pub covered : IsCoveredOpening s.opening → IsCovered s.image
