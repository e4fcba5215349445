-- What becomes of a saver and its disk when an image is saved.
use Rattle.std.specs.Prelude.{◌≡◌, ℕ, ◌+◌, Some}
use Rattle.ug_io.specs.Outside.{Rose}
use Rattle.ug_disk.specs.Histories.{History}
use Rattle.ug_disk.specs.Crashes.{Leaves}
use Rattle.ug_image.specs.declared.image.Image.{Image}
use Rattle.ug_checkpoint.specs.declared.found.Found.{Found}
use Rattle.ug_checkpoint.specs.declared.saver.Saver.{Saver}
use Rattle.ug_checkpoint.specs.Savers.{Finds, IsLeftAlone, IsSafe, IsWritten}
use Rattle.ug_checkpoint.specs.Savers.{last_slot, next_slot, sequence_of}
use Rattle.ug_restart.specs.declared.outcome.Attempt.{Attempt}
use Rattle.ug_restart.specs.declared.outcome.Attempt.TheVariants.{Saved, Missed, Unsaved}

-- a saver and its disk: what became of the slots so far, and how often the disk has failed
pub record Store : Type 0 where
  pub saver : Saver
  pub told : History
  pub faults : ℕ

-- the image in the slot that the next save writes
abbrev pub next_found : Saver → Image → Found
next_found saver image = record { slot = next_slot saver; image = image }

-- A save was tried, under the next sequence. At each moment of it recovery finds what it could find
-- before, the last acknowledged image or the new one, and the slot of the last one stays as it is.
pub record IsTried (old : Store) (image : Image) (new : Store) : Type 0 where
  pub next : image.sequence ≡ sequence_of old.saver + 1
  pub leaves : Leaves (IsSafe (last_slot old.saver) (Some old.told) (next_found old.saver image))
      (Some old.told) (Some new.told)
  pub alone : IsLeftAlone (next_slot old.saver) (Some old.told) (Some new.told)

-- it is acknowledged: whatever a crash leaves, recovery finds it
pub record IsDone (old : Store) (image : Image) (new : Store) : Type 0 where
  pub last : last_slot new.saver ≡ Some (next_slot old.saver)
  pub sequence : sequence_of new.saver ≡ image.sequence
  pub written : IsWritten (next_slot old.saver) image (Some new.told)
  pub finds : Finds (Some new.told) (next_found old.saver image)

-- the last acknowledged image is the same
pub record StaysLast (old new : Store) : Type 0 where
  pub last : last_slot new.saver ≡ last_slot old.saver
  pub sequence : sequence_of new.saver ≡ sequence_of old.saver

-- The result of a save: it is acknowledged, and no call of the disk failed; or one did, and the
-- last acknowledged image stays; or memory ran out, or no number is left, and the disk is
-- unchanged.
abbrev pub IsAttempt : Attempt → Store → Image → Store → Type 0
IsAttempt Saved old image new =
    IsTried old image new × IsDone old image new × (new.faults ≡ old.faults)
IsAttempt Missed old image new =
    IsTried old image new × StaysLast old new × Rose old.faults new.faults
IsAttempt Unsaved old image new =
    StaysLast old new × (new.told ≡ old.told) × (new.faults ≡ old.faults)
