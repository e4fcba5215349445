-- The image of a sound book is covered.
use Rattle.std.proofs.Common.{◌≡◌, ℕ, sym, ap, ◌∙◌, subst}
use Rattle.ug_rules.specs.declared.settings.Settings.{Settings}
use Rattle.ug_rules.specs.Books.{IsSoundBook}
use Rattle.ug_image.specs.declared.image.Image.{Image}
use Rattle.ug_image.specs.Images.{IsImage}
use Rattle.ug_snapshot.specs.Moments.{IsCovered, IsImageOf}
use Rattle.ug_book.specs.declared.opening.Opening.{Opening}
use Rattle.ug_book.specs.Openings.{IsCoveredOpening}
use Rattle.ug_desk.specs.Entries.{IsLocked, LockedState}
use Rattle.ug_snapshot.specs.Snapshots.{IsSnapshot}

-- the copy read of a locked value is a snapshot
pub snapshot_so : (l : LockedState) (o : Opening) (image : Image) (count : ℕ) → IsLocked l
    → o ≡ l.opening → IsImageOf l.now.book 1 image → IsImage image
    → (IsSoundBook l.now.book → IsCovered image)
    → IsSnapshot (record { opening = o; image = image; count = count })
snapshot_so l o image count locked is moment savable covered = record {
  savable = savable;
  problem = ap (λ (i : Image). i.problem) moment.is ∙ locked.same.problem
      ∙ ap (λ (k : Opening). k.problem) (sym is);
  run = ap (λ (i : Image). i.run) moment.is ∙ locked.same.run
      ∙ ap (λ (k : Opening). k.run) (sym is);
  gap = ap (λ (i : Image). i.gap) moment.is ∙ ap (λ (s : Settings). s.gap) locked.same.settings
      ∙ ap (λ (k : Opening). k.settings.gap) (sym is);
  covered = λ opening. covered (locked.sound (subst IsCoveredOpening is opening));
}
