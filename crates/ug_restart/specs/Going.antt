-- Saves over time: what holds from one time to a later one, over any number of them.
use Rattle.std.specs.Prelude.{◌≡◌, ◌⊎◌, ℕ, ◌+◌, ◌-◌, ◌^◌, ◌≤◌, ◌<◌, Some, IfSome}
use Rattle.ug_io.specs.Outside.{Rose}
use Rattle.ug_disk.specs.Crashes.{Leaves}
use Rattle.ug_disk.specs.Histories.{DiskSeen}
use Rattle.ug_rules.specs.State.{BookState}
use Rattle.ug_image.specs.declared.image.Image.{Image}
use Rattle.ug_restart.specs.declared.saves.Saves.{Saves}
use Rattle.ug_restart.specs.declared.outcome.Attempt.{Attempt}
use Rattle.ug_restart.specs.declared.outcome.Attempt.TheVariants.{Saved, Missed, Unsaved}
use Rattle.ug_restart.specs.Saves.{IsLastWith, book_of, saver_of, opening_of, calls_of, missed_of}
use Rattle.ug_restart.specs.Saves.{one_more, sequence_at, unsaved_of}
use Rattle.ug_restart.specs.Moments.{AllCovered, FindsIn, FindsOne, IsCoveredNow, IsFoundNow, IsOfRun}
use Rattle.ug_restart.specs.Moments.{LastIs, LastIsCovered}

-- what was saved and counted at a time, and what was then seen of the disk
pub record Time : Type 0 where
  pub saves : Saves
  pub disk : DiskSeen

abbrev pub time : Saves → DiskSeen → Time
time saves disk = record { saves = saves; disk = disk }

-- if the disk shows it, everything is Covered at each moment between, and so is the last
-- acknowledged image at the end
abbrev pub StaysCovered : Time → Time → Type 0
StaysCovered old new = IfSome old.disk.told (λ history.
    AllCovered (Some history) new.disk.told × LastIsCovered (saver_of new.saves) new.disk.told)

-- if the disk shows it, recovery finds an image of this book's run at each moment between, and the
-- last acknowledged one at the end is such
abbrev pub StaysFound : BookState → Time → Time → Type 0
StaysFound b old new = IfSome old.disk.told (λ history.
    Leaves (FindsIn (IsOfRun b)) (Some history) new.disk.told
    × LastIs (IsOfRun b) (saver_of new.saves) new.disk.told)

-- no more saves were missed than the disk failed; or its count of faults is at its largest value
abbrev pub IsEachAFault : Time → Time → Type 0
IsEachAFault old new =
    (missed_of new.saves + old.disk.faults ≤ missed_of old.saves + new.disk.faults)
    ⊎ (2 ^ 64 - 1 ≤ new.disk.faults)

-- The run is the same and no count falls. Saves are missed only if the disk failed, no more than it
-- did, and it did not fail if none was missed. If what is saved is Covered, and so was everything
-- before, everything is. If what is saved is of the run, and recovery found such before, it still
-- does.
pub record GoesOn (Covers Ours : Type 0) (old new : Time) : Type 0 where
  pub opening : opening_of new.saves ≡ opening_of old.saves
  pub calls : calls_of old.saves ≤ calls_of new.saves
  pub missed : missed_of old.saves ≤ missed_of new.saves
  pub unsaved : unsaved_of old.saves ≤ unsaved_of new.saves
  pub faults : old.disk.faults ≤ new.disk.faults
  pub rose : missed_of old.saves < missed_of new.saves → Rose old.disk.faults new.disk.faults
  pub each : IsEachAFault old new
  pub calm : missed_of new.saves ≡ missed_of old.saves → missed_of old.saves < 2 ^ 64 - 1
      → new.disk.faults ≡ old.disk.faults
  pub covered : Covers → IsCoveredNow (saver_of old.saves) old.disk.told → StaysCovered old new
  pub found : Ours
      → IsFoundNow (IsOfRun (book_of old.saves)) (saver_of old.saves) old.disk.told
      → StaysFound (book_of old.saves) old new

-- The result of a save: an image that has P is found, whatever a crash leaves, under the next
-- sequence, and no count rose; or the disk failed, and one more is missed; or memory ran out, and
-- one more is unsaved.
abbrev pub IsAttempted : (Image → Type 0) → Attempt → Time → Time → Type 0
IsAttempted P Saved old new =
    FindsOne (IsLastWith P new.saves) new.disk.told
    × (sequence_at new.saves ≡ sequence_at old.saves + 1)
    × (missed_of new.saves ≡ missed_of old.saves) × (unsaved_of new.saves ≡ unsaved_of old.saves)
IsAttempted P Missed old new =
    Rose old.disk.faults new.disk.faults × (sequence_at new.saves ≡ sequence_at old.saves)
    × (missed_of new.saves ≡ one_more (missed_of old.saves))
    × (unsaved_of new.saves ≡ unsaved_of old.saves)
IsAttempted P Unsaved old new =
    (new.disk.faults ≡ old.disk.faults) × (sequence_at new.saves ≡ sequence_at old.saves)
    × (missed_of new.saves ≡ missed_of old.saves)
    × (unsaved_of new.saves ≡ one_more (unsaved_of old.saves))

-- nothing has changed
abbrev pub IsUntouched : Time → Time → Type 0
IsUntouched old new = new ≡ old
