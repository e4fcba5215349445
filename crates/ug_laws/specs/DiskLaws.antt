-- The laws of crashes: no better point is lost, an image is always found, and no run number is
-- taken twice.
use Rattle.std.specs.Prelude.{◌≡◌, ℕ, ◌<◌, List, [], ◌∷◌, All, None, Some, IfSome}
use Rattle.ug_disk.specs.Histories.{History}
use Rattle.ug_disk.specs.Crashes.{Leaves}
use Rattle.ug_problem.specs.Instances.{Instance}
use Rattle.ug_rules.specs.declared.settings.Settings.{Settings}
use Rattle.ug_rules.specs.State.{BookState}
use Rattle.ug_rules.specs.Books.{IsBook, IsSoundBook}
use Rattle.ug_book.specs.Openings.{opening_book}
use Rattle.ug_snapshot.specs.Moments.{IsCovered}
use Rattle.ug_restart.specs.declared.start.Start.{Start}
use Rattle.ug_restart.specs.Moments.{FindsIn}
use Rattle.ug_restart.specs.Openings.{IsAcknowledgedStart, IsFromFound, IsStart}
use Rattle.ug_restart.specs.Starts.{GoesOnFrom, IsBegun, IsGoneOn}
use Rattle.ug_laws.specs.Honest.{IsHonest}
use Rattle.ug_laws.specs.Laws.{LosesNothing}
use Rattle.ug_laws.specs.declared.disk_event.DiskEvent.{DiskEvent}
use Rattle.ug_laws.specs.declared.disk_event.DiskEvent.TheVariants.{World as InWorld, Note, Save}
use Rattle.ug_laws.specs.declared.disk_event.DiskEvent.TheVariants.{Crash, Stop}
use Rattle.ug_laws.specs.DiskEvents.{IsDiskEvent}
use Rattle.ug_laws.specs.DiskFinds.{AreFound}
use Rattle.ug_laws.specs.Machines.{DiskWorld, IsDiskTrace, beginning, left_by}

-- A run has begun: its book is sound and has given no ticket, and its first image is acknowledged:
-- whatever a crash now leaves, recovery finds it. What the disk had before does not matter, nor
-- what earlier runs have sent.
pub record HasBegun (w : DiskWorld) : Type 0 where
  pub book : IsBook w.world.book
  pub sound : IsSoundBook w.world.book
  pub unused : w.world.book.last ≡ 0
  pub acknowledged : IsAcknowledgedStart (Some w.told) w.world.book w.saver
  pub noted : w.noted ≡ None

-- what `begin` answers is such a run, whatever the disk had
abbrev pub NewRunsBegin : Type 0
NewRunsBegin =
    (p : Instance) (settings : Settings) (old new : History) (faults : ℕ) (start : Start)
    (book : BookState) → IsStart (IsBegun p settings (Some old)) (Some new) start
    → IsBook book → book ≡ opening_book start.opening
    → HasBegun (beginning book (record { saver = start.saver; told = new; faults = faults }))

-- and what `restart` returns, if the very image from which it resumes was Covered
abbrev pub NextRunsBegin : Type 0
NextRunsBegin =
    (p : Instance) (settings : Settings) (old new : History) (faults : ℕ) (start : Start)
    (book : BookState) → IsStart (IsGoneOn p settings (Some old)) (Some new) start
    → (from : IsFromFound (GoesOnFrom p settings) (Some old) (Some new) start)
    → IfSome from.found (λ found. IsCovered found.image)
    → IsBook book → book ≡ opening_book start.opening
    → HasBegun (beginning book (record { saver = start.saver; told = new; faults = faults }))

-- No better point is lost, neither by the book of a run that continues nor by the disk: whatever a
-- crash might have left, at any moment since then, recovery finds an image that is Covered, so each
-- point that is better than its incumbent lies in one of its nodes.
pub record LosesNothingSince (since : History) (w : DiskWorld) : Type 0 where
  pub book : w.refused ≡ None → LosesNothing w.world.book
  pub disk : Leaves (FindsIn IsCovered) (Some since) (Some w.told)

-- so it is after each of the events, at any moment since the run has begun, or since the last crash
abbrev pub LoseNothing : History → List DiskEvent → List DiskWorld → Type 0
LoseNothing since [] [] = Unit {0}
LoseNothing since (event ∷ events) (new ∷ trace) =
    LosesNothingSince (left_by event since) new × LoseNothing (left_by event since) events trace
LoseNothing since [] (new ∷ trace) = ⊥
LoseNothing since (event ∷ events) [] = ⊥

-- so far everything that solvers sent to the run that continues is honest
abbrev pub IsHonestOnDisk : DiskWorld → Type 0
IsHonestOnDisk w = w.refused ≡ None → IsHonest w.world

-- after each event of each list, as long as solvers are honest, no better point is lost
abbrev pub CrashesLoseNothing : Type 0
CrashesLoseNothing =
    (start : DiskWorld) (events : List DiskEvent) (trace : List DiskWorld)
    → HasBegun start → All IsDiskEvent events → IsDiskTrace start events trace
    → All IsHonestOnDisk trace → LoseNothing start.told events trace

-- whatever happens, honest or not, at each moment an image is found that is of a moment so far and
-- no older than the last acknowledged one
abbrev pub ImagesAreFound : Type 0
ImagesAreFound =
    (start : DiskWorld) (events : List DiskEvent) (trace : List DiskWorld)
    → HasBegun start → IsDiskTrace start events trace
    → AreFound (start ∷ []) start events trace

-- a restart that is not refused takes a greater run number, and no other event takes another
abbrev pub IsNumbered : DiskWorld → DiskEvent → DiskWorld → Type 0
IsNumbered old (InWorld event) new = new.world.book.run ≡ old.world.book.run
IsNumbered old Note new = new.world.book.run ≡ old.world.book.run
IsNumbered old Save new = new.world.book.run ≡ old.world.book.run
IsNumbered old (Crash zero one settings) new =
    new.refused ≡ None → old.world.book.run < new.world.book.run
IsNumbered old (Stop settings) new =
    new.refused ≡ None → old.world.book.run < new.world.book.run

abbrev pub AreNumbered : DiskWorld → List DiskEvent → List DiskWorld → Type 0
AreNumbered old [] [] = Unit {0}
AreNumbered old (event ∷ events) (new ∷ trace) =
    IsNumbered old event new × AreNumbered new events trace
AreNumbered old [] (new ∷ trace) = ⊥
AreNumbered old (event ∷ events) [] = ⊥

-- whatever happens, honest or not, each restart is of a run with a number above those before
abbrev pub RunsRise : Type 0
RunsRise =
    (start : DiskWorld) (events : List DiskEvent) (trace : List DiskWorld)
    → HasBegun start → IsDiskTrace start events trace → AreNumbered start events trace
