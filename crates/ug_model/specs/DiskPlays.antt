-- What a schedule that was played leaves.
use Rattle.std.specs.Prelude.{◌≡◌, ℕ, List, length, take, All, Option, None, Some, Result, Ok, Err}
use Rattle.std.specs.Prelude.{slice_get}
use Rattle.ug_disk.specs.Histories.{History}
use Rattle.ug_disk.specs.Crashes.{Leaves}
use Rattle.ug_disk.specs.Memories.{faults_of, history_of}
use Rattle.ug_snapshot.specs.Moments.{IsCovered}
use Rattle.ug_restart.specs.Moments.{FindsIn}
use Rattle.ug_laws.specs.declared.disk_event.DiskEvent.{DiskEvent}
use Rattle.ug_model.specs.declared.halt.Halted.{Halted}
use Rattle.ug_model.specs.declared.disk_schedule.PlayedDisk.{PlayedDisk}
use Rattle.ug_model.specs.declared.disk_schedule.PlayDiskFault.{PlayDiskFault}
use Rattle.ug_laws.specs.Machines.{DiskWorld, IsDiskTrace, disk_end_of, last_left}
use Rattle.ug_model.specs.DiskHalts.{IsHalted, IsRefused}
use Rattle.ug_laws.specs.Laws.{LosesNothing}
use Rattle.ug_laws.specs.DiskLaws.{IsHonestOnDisk}

-- this is left of what stands
pub record IsLeftOf (w : DiskWorld) (left : PlayedDisk) : Type 0 where
  pub book : left.book ≡ w.world.book
  pub saver : left.saver ≡ w.saver
  pub disk : history_of left.disk ≡ w.told
  pub faults : faults_of left.disk ≡ w.faults
  pub replies : left.replies ≡ w.world.replies
  pub decisions : left.decisions ≡ w.world.decisions
  pub attempts : left.attempts ≡ w.attempts

-- the first `done` events happened, one after another, and led to this world
pub record Reaches (start : DiskWorld) (events : List DiskEvent) (done : ℕ) (w : DiskWorld)
    : Type 0 where
  pub trace : List DiskWorld
  pub happened : IsDiskTrace start (take done events) trace
  pub ends : disk_end_of start trace ≡ w

-- all of the events happened, and a run continues
pub record IsPlayedOnDisk (start : DiskWorld) (events : List DiskEvent) (left : PlayedDisk)
    : Type 0 where
  pub w : DiskWorld
  pub come : Reaches start events (length events) w
  pub goes_on : w.refused ≡ None
  pub is_left : IsLeftOf w left

-- what stands where the next event did not happen, or where there is none but the last restart was
-- refused
abbrev pub IsHaltedAt : Option DiskEvent → DiskWorld → DiskWorld → Halted → Type 0
IsHaltedAt None old new why = IsRefused old why × (new ≡ old)
IsHaltedAt (Some event) old new why = IsHalted old event new why

-- this number of events happened, and why no more did
pub record IsStoppedOnDisk (start : DiskWorld) (events : List DiskEvent) (fault : PlayDiskFault)
    : Type 0 where
  pub w : DiskWorld
  pub come : Reaches start events fault.done w
  pub new : DiskWorld
  pub halted : IsHaltedAt (slice_get events fault.done) w new fault.why
  pub is_left : IsLeftOf new fault.left

-- no better point is lost by the book that is left, if a run continued, nor since then by its disk
pub record NothingIsLost (since : History) (w : DiskWorld) (left : PlayedDisk) : Type 0 where
  pub book : w.refused ≡ None → LosesNothing left.book
  pub disk : Leaves (FindsIn IsCovered) (Some since) (Some (history_of left.disk))

-- so it is, as long as solvers are honest, wherever the schedule stopped
abbrev pub HonestLeaveOnDisk : DiskWorld → List DiskEvent → Result PlayedDisk PlayDiskFault → Type 0
HonestLeaveOnDisk start events (Ok left) =
    (w : DiskWorld) (come : Reaches start events (length events) w)
    → All IsHonestOnDisk come.trace → IsLeftOf w left
    → NothingIsLost (last_left start.told (take (length events) events)) w left
HonestLeaveOnDisk start events (Err fault) =
    (w new : DiskWorld) (come : Reaches start events fault.done w)
    → All IsHonestOnDisk come.trace
    → IsHaltedAt (slice_get events fault.done) w new fault.why
    → IsLeftOf new fault.left
    → NothingIsLost (last_left start.told (take fault.done events)) w fault.left
