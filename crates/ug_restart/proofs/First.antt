-- The first save of a run.
use Rattle.std.proofs.Common.{◌≡◌, inl, inr, ℕ, Option, None, Some, sym, ◌∙◌, ap, subst}
use Rattle.ug_disk.specs.Histories.{History}
use Rattle.ug_disk.specs.Crashes.{Leaves}
use Rattle.ug_disk.proofs.Moments.{LeavesNow, starts, weakens}
use Rattle.ug_rules.specs.State.{BookState}
use Rattle.ug_image.specs.declared.image.Image.{Image}
use Rattle.ug_checkpoint.specs.Runs.{CouldLeave}
use Rattle.ug_checkpoint.specs.declared.saver.Saver.{Saver}
use Rattle.ug_checkpoint.specs.Savers.{IsSafe, IsWritten, Finds, last_slot, next_slot, sequence_of}
use Rattle.ug_snapshot.specs.Moments.{IsImageOf}
use Rattle.ug_restart.specs.Openings.{IsAcknowledgedStart, IsSafeFirst}

could_now : (told : Option History) → LeavesNow (CouldLeave told) told
could_now None = tt
could_now (Some history) = λ zero one may. may

-- before the save nothing has changed
pub not_begun : (saver : Saver) (told : Option History) (book : BookState)
    → Leaves (IsSafeFirst saver told book) told told
not_begun saver told book =
    weakens (CouldLeave told) (IsSafeFirst saver told book) told told
    (λ zero one could. inl could) (starts (CouldLeave told) told (could_now told))

-- during the save of an image of the book
pub saving : (saver : Saver) (told new : Option History) (book : BookState) (image : Image)
    (sequence : ℕ) → IsImageOf book sequence image
    → Leaves (IsSafe (last_slot saver) told (record { slot = next_slot saver; image = image }))
    told new
    → Leaves (IsSafeFirst saver told book) told new
saving saver told new book image sequence moment leaves =
    weakens (IsSafe (last_slot saver) told (record { slot = next_slot saver; image = image }))
    (IsSafeFirst saver told book) told new
    (λ zero one safe. inr (
      safe.found,
      safe.recovered,
      elim safe.is [
        | inl old ↦ inl old
        | inr same ↦ inr (
          record { slot = next_slot saver; image = image },
          same,
          record { sequence = sequence; image = moment },
        )
      ],
    )) leaves

-- after it
pub acknowledged : (saver after : Saver) (told : Option History) (book : BookState) (image : Image)
    (sequence : ℕ) → IsImageOf book sequence image → sequence_of after ≡ image.sequence
    → last_slot after ≡ Some (next_slot saver)
    → IsWritten (next_slot saver) image told
    → Finds told (record { slot = next_slot saver; image = image })
    → IsAcknowledgedStart told book after
acknowledged saver after told book image sequence moment same last written finds = record {
  found = record { slot = next_slot saver; image = image };
  finds = finds;
  image = subst (λ n. IsImageOf book n image)
      (sym (same ∙ ap (λ (i : Image). i.sequence) moment.is)) moment;
  last = last;
  written = written;
}
