-- Which image recovery finds, at each moment of a trace: one of a moment so far, and none that is
-- older than the last acknowledged one.
use Rattle.std.specs.Prelude.{◌≡◌, ◌⊎◌, ℕ, ◌<◌, ◌≤◌, List, [], ◌∷◌, Contains, None, Some}
use Rattle.ug_disk.specs.Crashes.{Leaves, MayLeaveBoth}
use Rattle.ug_rules.specs.declared.settings.Settings.{Settings}
use Rattle.ug_rules.specs.State.{BookState}
use Rattle.ug_image.specs.declared.image.Image.{Image}
use Rattle.ug_checkpoint.specs.Savers.{sequence_of}
use Rattle.ug_snapshot.specs.Moments.{IsImageOf}
use Rattle.ug_restart.specs.Moments.{FindsIn, IsOfRun}
use Rattle.ug_restart.specs.Starts.{IsGoneOn}
use Rattle.ug_laws.specs.declared.disk_event.DiskEvent.{DiskEvent}
use Rattle.ug_laws.specs.declared.disk_event.DiskEvent.TheVariants.{World as InWorld, Note, Save}
use Rattle.ug_laws.specs.declared.disk_event.DiskEvent.TheVariants.{Crash, Stop}
use Rattle.ug_laws.specs.Machines.{DiskWorld, left_by}

-- it is an image of the book in one of these worlds
pub record IsOfWorld (past : List DiskWorld) (image : Image) : Type 0 where
  pub world : DiskWorld
  pub among : Contains past world
  pub moment : IsImageOf world.world.book image.sequence image

-- it is an image of a book with which a run would resume from what recovery could find in one of
-- these worlds: such a restart may be refused when its image is on the disk
pub record IsOfStart (past : List DiskWorld) (image : Image) : Type 0 where
  pub world : DiskWorld
  pub among : Contains past world
  pub settings : Settings
  pub book : BookState
  pub goes_on : IsGoneOn world.world.book.problem settings (Some world.told) book
  pub moment : IsImageOf book image.sequence image

-- it is of a later run than this one, or of this one and has no lower sequence
abbrev pub IsNoOlder : ℕ → ℕ → Image → Type 0
IsNoOlder run sequence image =
    (run < image.run) ⊎ ((image.run ≡ run) × (sequence ≤ image.sequence))

-- It is of the book's problem and of a moment of these worlds, and no older than the image that was
-- acknowledged last of the book's run, under this sequence.
pub record IsLatest (past : List DiskWorld) (book : BookState) (sequence : ℕ) (image : Image)
    : Type 0 where
  pub problem : image.problem ≡ book.problem
  pub no_older : IsNoOlder book.run sequence image
  pub of : IsOfWorld past image ⊎ IsOfStart past image

-- at a moment of an event other than a restart it is of the run
abbrev pub IsOfSameRun : DiskEvent → BookState → Image → Type 0
IsOfSameRun (InWorld event) book image = IsOfRun book image
IsOfSameRun Note book image = IsOfRun book image
IsOfSameRun Save book image = IsOfRun book image
IsOfSameRun (Crash zero one settings) book image = Unit {0}
IsOfSameRun (Stop settings) book image = Unit {0}

-- the image found at each moment of an event
abbrev pub IsThrough : List DiskWorld → DiskWorld → DiskEvent → Image → Type 0
IsThrough past old event image = IsLatest past old.world.book (sequence_of old.saver) image
    × IsOfSameRun event old.world.book image

-- the image found between two events: one of the run, if a run continues
abbrev pub IsBetween : List DiskWorld → DiskWorld → Image → Type 0
IsBetween past w image = IsLatest past w.world.book (sequence_of w.saver) image
    × (w.refused ≡ None → IsOfRun w.world.book image)

-- Whatever a crash leaves, at each moment of the event and after it, no slot is bad, and recovery
-- finds such an image.
pub record IsFoundThrough (past : List DiskWorld) (old : DiskWorld) (event : DiskEvent)
    (new : DiskWorld) : Type 0 where
  pub each : Leaves (FindsIn (IsThrough past old event))
      (Some (left_by event old.told)) (Some new.told)
  pub after : (zero one : List ℕ) → MayLeaveBoth new.told.now zero one
      → FindsIn (IsBetween (new ∷ past) new) zero one

-- so it is through each of the events, where these worlds stood so far, the latest first
abbrev pub AreFound : List DiskWorld → DiskWorld → List DiskEvent → List DiskWorld → Type 0
AreFound past old [] [] = Unit {0}
AreFound past old (event ∷ events) (new ∷ trace) =
    IsFoundThrough past old event new × AreFound (new ∷ past) new events trace
AreFound past old [] (new ∷ trace) = ⊥
AreFound past old (event ∷ events) [] = ⊥
