-- What may be saved next.
use Rattle.std.proofs.Common.{◌≡◌, Option, Some, None, IfSome, ℕ, ◌+◌, ◌^◌, ◌≤◌, ◌<◌, sym, ◌∙◌, ap, subst, arith}
use Rattle.ug_image.specs.declared.image.Image.{Image}
use Rattle.ug_image.specs.Images.{IsImage}
use Rattle.ug_checkpoint.specs.declared.saver.Saver.{Saver}
use Rattle.ug_checkpoint.specs.Savers.{sequence_of}
use Rattle.ug_snapshot.specs.Moments.{IsCovered, IsImageOf}
use Rattle.ug_rules.specs.State.{BookState}
use Rattle.ug_book.specs.Openings.{opening_book}
use Rattle.ug_book.specs.Views.{IsSameRun}
use Rattle.ug_snapshot.specs.Snapshots.{IsSnapshot, SnapshotState}
use Rattle.ug_restart.specs.Moments.{IsOfRun}
use Rattle.ug_restart.specs.Saves.{IsNext, IsOfBook, under}

-- an image under another sequence is one
pub image_under : (image : Image) (sequence : ℕ) → IsImage image → 1 ≤ sequence
    → sequence < 2 ^ 64 → IsImage (under sequence image)
image_under image sequence is least fits = record {
  run = is.run;
  run_fits = is.run_fits;
  sequence = least;
  sequence_fits = fits;
  problem = is.problem;
  best = is.best;
  heard = is.heard;
  gap = is.gap;
  count = is.count;
  nodes = is.nodes;
  names = is.names;
}

pub next_under : (saver : Saver) (image made : Image) (sequence : ℕ) → IsImage image
    → sequence ≡ sequence_of saver + 1 → sequence < 2 ^ 64 → made ≡ under sequence image
    → IsNext saver made
next_under saver image made sequence is next fits same =
    subst (IsNext saver) (sym same) (record {
      is = image_under image sequence is (omega (arith, next)) fits;
      next = next;
    })

pub covered_under : (image made : Image) (sequence : ℕ) → made ≡ under sequence image
    → IsCovered image → IsCovered made
covered_under image made sequence same covered = subst IsCovered (sym same) covered

pub next_of_book : (saver : Saver) (b : BookState) (made : Image) (sequence : ℕ)
    → IsImage made → sequence ≡ sequence_of saver + 1 → IsImageOf b sequence made
    → IsNext saver made
next_of_book saver b made sequence is next moment = record {
  is = is;
  next = ap (λ (i : Image). i.sequence) moment.is ∙ next;
}

-- facts about the image that there is
pub of_some : (o : Option Image) (P : Image → Type 0) (image : Image) → IfSome o P
    → o ≡ Some image → P image
of_some o P image known is = subst (λ (k : Option Image). IfSome k P) is known

-- the image of a snapshot is of the run of its opening
pub of_run_under : (s : SnapshotState) (made : Image) (sequence : ℕ) → made ≡ under sequence s.image
    → IsSnapshot s → IsOfRun (opening_book s.opening) made
of_run_under s made sequence same is = subst (IsOfRun (opening_book s.opening)) (sym same)
    (record { problem = is.problem; run = is.run })

-- that of a book of the run is of it
of_run : (b book : BookState) (made : Image) → IsSameRun b book → IsOfBook book made
    → IsOfRun b made
of_run b book made same of = record {
  problem = ap (λ (i : Image). i.problem) of.moment.is ∙ same.problem;
  run = ap (λ (i : Image). i.run) of.moment.is ∙ same.run;
}

pub some_of_run : (image : Option Image) (b book : BookState) → IsSameRun b book
    → IfSome image (IsOfBook book) → IfSome image (IsOfRun b)
some_of_run None b book same of = tt
some_of_run (Some made) b book same of = of_run b book made same of
