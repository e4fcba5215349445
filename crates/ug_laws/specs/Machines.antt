-- A coordinator and the disk of its images, and what an event does to them.
use Rattle.std.specs.Prelude.{◌≡◌, ◌⊎◌, ℕ, List, [], ◌∷◌, ◌++◌, length, Option, None, Some, IfSome}
use Rattle.ug_disk.specs.Histories.{History}
use Rattle.ug_disk.specs.Crashes.{Leaves, MayLeaveBoth}
use Rattle.ug_disk.specs.Memories.{begun}
use Rattle.ug_rules.specs.declared.settings.Settings.{Settings}
use Rattle.ug_rules.specs.State.{BookState}
use Rattle.ug_rules.specs.Books.{IsBook}
use Rattle.ug_book.specs.Views.{IsSameRun}
use Rattle.ug_image.specs.declared.image.Image.{Image}
use Rattle.ug_image.specs.Images.{IsImage}
use Rattle.ug_checkpoint.specs.declared.saver.Saver.{Saver}
use Rattle.ug_checkpoint.specs.Savers.{IsKept}
use Rattle.ug_restart.specs.declared.fault.StartFault.{StartFault}
use Rattle.ug_restart.specs.declared.outcome.Attempt.{Attempt}
use Rattle.ug_restart.specs.Faults.{start_cause}
use Rattle.ug_snapshot.specs.Moments.{IsImageOf}
use Rattle.ug_restart.specs.Openings.{IsAcknowledgedStart}
use Rattle.ug_restart.specs.Starts.{IsGoneOn, IsNotGoneOn, IsSafeStart}
use Rattle.ug_laws.specs.declared.event.Event.{Event}
use Rattle.ug_laws.specs.Events.{IsEvent}
use Rattle.ug_laws.specs.Worlds.{Happens, World, opening}
use Rattle.ug_laws.specs.declared.disk_event.DiskEvent.{DiskEvent}
use Rattle.ug_laws.specs.declared.disk_event.DiskEvent.TheVariants.{World as InWorld, Note, Save}
use Rattle.ug_laws.specs.declared.disk_event.DiskEvent.TheVariants.{Crash, Stop}
use Rattle.ug_laws.specs.Saves.{IsAttempt, Store}

-- The book with what was sent and answered, the saver, the image that is noted to be saved, why the
-- last restart was refused if it was, what became of the disk, how often it has failed, and what
-- became of each save. After a restart that was refused the book and the saver are those of the run
-- before.
pub record DiskWorld : Type 0 where
  pub world : World
  pub saver : Saver
  pub noted : Option Image
  pub refused : Option StartFault
  pub told : History
  pub faults : ℕ
  pub attempts : List Attempt

-- the saver and the disk
abbrev pub store_of : DiskWorld → Store
store_of w = record { saver = w.saver; told = w.told; faults = w.faults }

-- before the first event
abbrev pub beginning : BookState → Store → DiskWorld
beginning b s = record {
  world = opening b [];
  saver = s.saver;
  noted = None;
  refused = None;
  told = s.told;
  faults = s.faults;
  attempts = [];
}

-- while a run continues, the saver knows the state of the slots, and what is noted is an image
abbrev pub IsAble : DiskWorld → Type 0
IsAble w = w.refused ≡ None → IsKept w.saver (Some w.told) × IfSome w.noted IsImage

-- something happens between the coordinator and its solvers, and the run stays the same
pub record OfWorld (event : Event) (old new : DiskWorld) : Type 0 where
  pub goes_on : old.refused ≡ None
  pub is : IsEvent (length old.world.book.ranks) event
  pub happens : Happens old.world event new.world
  pub same : IsSameRun old.world.book new.world.book
  pub rest : new ≡ record old { world = new.world }

-- the image of this moment is noted; its sequence is given to it when it is saved
pub record HasNoted (old new : DiskWorld) : Type 0 where
  pub goes_on : old.refused ≡ None
  pub image : Image
  pub moment : IsImageOf old.world.book 1 image
  pub rest : new ≡ record old { noted = Some image }

-- the image was saved under another sequence, or an attempt was made, and the result is recorded
pub record HasAttempted (image : Image) (old new : DiskWorld) : Type 0 where
  pub attempt : Attempt
  pub next : Image
  pub same : next ≡ record image { sequence = next.sequence }
  pub is : IsAttempt attempt (store_of old) next (store_of new)
  pub rest : new ≡ record old {
    saver = new.saver;
    noted = Some next;
    told = new.told;
    faults = new.faults;
    attempts = old.attempts ++ attempt ∷ [];
  }

-- the noted image, if there is one, is saved or an attempt is made
abbrev pub SavesWhat : Option Image → DiskWorld → DiskWorld → Type 0
SavesWhat None old new = new ≡ old
SavesWhat (Some image) old new = HasAttempted image old new

pub record IsSavedOrNot (old new : DiskWorld) : Type 0 where
  pub goes_on : old.refused ≡ None
  pub saves : SavesWhat old.noted old new

-- a run resumes from an image that recovery finds, once an image of its book is acknowledged, and
-- no call of the disk failed; no order of it was sent yet
pub record HasGoneOn (settings : Settings) (old new : DiskWorld) : Type 0 where
  pub book : IsGoneOn old.world.book.problem settings (Some old.told) new.world.book
  pub is : IsBook new.world.book
  pub acknowledged : IsAcknowledgedStart (Some new.told) new.world.book new.saver
  pub rest : new ≡ record {
    world = record old.world { book = new.world.book; told = [] };
    saver = new.saver;
    noted = None;
    refused = None;
    told = new.told;
    faults = old.faults;
    attempts = old.attempts;
  }

-- the restart is refused, for the first cause that applies or out of memory; for a fault of the
-- disk if its count of faults rose, and for no other cause then
pub record IsNotRestarted (settings : Settings) (old new : DiskWorld) : Type 0 where
  pub fault : StartFault
  pub why : IsNotGoneOn old.world.book.problem settings (Some old.told) (Some new.told) fault
  pub cause : start_cause fault old.faults new.faults
  pub rest : new ≡ record old {
    noted = None;
    refused = Some fault;
    told = new.told;
    faults = new.faults;
  }

-- The coordinator restarts. At each moment of that recovery finds what it could find before, or the
-- first image of a book that resumes from such an image.
pub record HasRestarted (settings : Settings) (old new : DiskWorld) : Type 0 where
  pub leaves : Leaves (IsSafeStart (Some old.told)
      (IsGoneOn old.world.book.problem settings (Some old.told))) (Some old.told) (Some new.told)
  pub ends : HasGoneOn settings old new ⊎ IsNotRestarted settings old new

-- how the disk stands when an event begins to call it: as a crash leaves it, or as it was
abbrev pub left_by : DiskEvent → History → History
left_by (Crash zero one settings) told = begun zero.items one.items
left_by event told = told

-- what an event does
abbrev pub HappensOnDisk : DiskWorld → DiskEvent → DiskWorld → Type 0
HappensOnDisk old (InWorld event) new = OfWorld event old new
HappensOnDisk old Note new = HasNoted old new
HappensOnDisk old Save new = IsSavedOrNot old new
HappensOnDisk old (Crash zero one settings) new =
    MayLeaveBoth old.told.now zero.items one.items
    × HasRestarted settings (record old { told = begun zero.items one.items }) new
HappensOnDisk old (Stop settings) new = HasRestarted settings old new

-- what stands after each of the events, one after another
abbrev pub IsDiskTrace : DiskWorld → List DiskEvent → List DiskWorld → Type 0
IsDiskTrace old [] [] = Unit {0}
IsDiskTrace old (event ∷ events) (new ∷ trace) =
    HappensOnDisk old event new × IsDiskTrace new events trace
IsDiskTrace old [] (new ∷ trace) = ⊥
IsDiskTrace old (event ∷ events) [] = ⊥

-- the disk as the last crash of these events left it, or as it was where there is none
abbrev pub last_left : History → List DiskEvent → History
last_left told [] = told
last_left told (event ∷ events) = last_left (left_by event told) events

-- the world at the end of a trace
abbrev pub disk_end_of : DiskWorld → List DiskWorld → DiskWorld
disk_end_of old [] = old
disk_end_of old (new ∷ trace) = disk_end_of new trace
