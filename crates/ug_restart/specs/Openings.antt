-- The state of the disk when a run has begun.
use Rattle.std.specs.Prelude.{◌≡◌, ◌⊎◌, ℕ, ◌+◌, List, Option, Some, IfSome}
use Rattle.ug_disk.specs.Crashes.{Leaves}
use Rattle.ug_disk.specs.Histories.{History}
use Rattle.ug_rules.specs.State.{BookState}
use Rattle.ug_checkpoint.specs.declared.found.Found.{Found}
use Rattle.ug_checkpoint.specs.declared.saver.Saver.{Saver}
use Rattle.ug_checkpoint.specs.Recovery.{HasFound, Recovered}
use Rattle.ug_checkpoint.specs.Savers.{CouldFind, Finds, IsKept, IsLast, IsWritten}
use Rattle.ug_checkpoint.specs.Savers.{last_slot, sequence_of}
use Rattle.ug_checkpoint.specs.Runs.{CouldLeave}
use Rattle.ug_snapshot.specs.Moments.{IsCovered, IsImageOf}
use Rattle.ug_book.specs.Openings.{IsCoveredOpening, IsOpening, opening_book}
use Rattle.ug_restart.specs.Starts.{IsFirstImage, sequence_in}
use Rattle.ug_restart.specs.declared.start.Start.{Start}
use Rattle.ug_restart.specs.declared.fault.StartFault.{StartFault}
use Rattle.ug_restart.specs.declared.fault.StartFault.TheVariants.{Memory, DiskFault}

-- Whatever a crash leaves, recovery finds an image of this book, and the saver knows its sequence
-- and its slot.
pub record IsAcknowledgedStart (told : Option History) (book : BookState) (saver : Saver)
    : Type 0 where
  pub found : Found
  pub finds : Finds told found
  pub image : IsImageOf book (sequence_of saver) found.image
  pub last : last_slot saver ≡ Some found.slot
  pub written : IsWritten found.slot found.image told

-- How a run starts: its book is one of these, and can be made of what it begins with; and an image
-- of it is acknowledged, which the saver knows.
pub record IsStart (Is : BookState → Type 0) (told : Option History) (s : Start) : Type 0 where
  pub book : Is (opening_book s.opening)
  pub opening : IsOpening s.opening
  pub acknowledged : IsAcknowledgedStart told (opening_book s.opening) s.saver
  pub kept : IsKept s.saver told

-- each image that recovery could find then is Covered
abbrev pub CoversWhatIsFound : Option History → Type 0
CoversWhatIsFound told = (found : Found) → CouldFind told (Some found) → IsCovered found.image

-- What the first save of a book may leave: recovery finds what it could find before, the last
-- acknowledged image, or an image of the book. Before it begins a crash leaves what it could.
abbrev pub IsSafeFirst : Saver → Option History → BookState → List ℕ → List ℕ → Type 0
IsSafeFirst saver told book zero one = CouldLeave told zero one
    ⊎ ((found : Option Found) × Recovered zero one found
    × ((CouldFind told found ⊎ IsLast (last_slot saver) told found)
    ⊎ ((new : Found) × (found ≡ Some new) × IsFirstImage book new)))

-- why the first image is not saved
abbrev pub IsNotSaved : StartFault → Type 0
IsNotSaved Memory = Unit {0}
IsNotSaved DiskFault = Unit {0}
IsNotSaved fault = ⊥

-- This was found, if anything was: at some moment between the two times the slots had bytes that a
-- crash could have left at the first, a crash would have left just them, and recovery finds it
-- there.
pub record WasFound (old new : Option History) (found : Option Found) : Type 0 where
  pub mid : Option History
  pub has : HasFound old mid found
  pub before : Leaves (CouldLeave old) old mid
  pub after : Leaves (λ zero one. Unit {0}) mid new

-- The start is made of the very image that was found: its book is such as begins there, and is
-- Covered where that image was, or there is none; its own image has the sequence after that one, or
-- the first.
pub record IsFromFound (Is : Option Found → BookState → Type 0) (old new : Option History)
    (s : Start) : Type 0 where
  pub found : Option Found
  pub was : WasFound old new found
  pub book : Is found (opening_book s.opening)
  pub covered : IfSome found (λ f. IsCovered f.image) → IsCoveredOpening s.opening
  pub one : sequence_of s.saver ≡ sequence_in found + 1
