-- Why an event did not happen, and what stands then.
use Rattle.std.specs.Prelude.{◌≡◌, ℕ, ◌≤◌, List, length, Some}
use Rattle.ug_disk.specs.Memories.{begun, IsFirstForbidden}
use Rattle.ug_disk.specs.Crashes.{MayLeaveBoth}
use Rattle.ug_restart.specs.declared.fault.StartFault.{StartFault}
use Rattle.ug_laws.specs.declared.event.Event.{Event}
use Rattle.ug_model.specs.declared.playing.Halt.{Halt}
use Rattle.ug_model.specs.declared.playing.Halt.TheVariants.{NoSuch as NoSuchThere}
use Rattle.ug_model.specs.declared.playing.Halt.TheVariants.{Memory as NoMemory}
use Rattle.ug_model.specs.Halts.{IsPast}
use Rattle.ug_model.specs.Plays.{IsLeftBy}
use Rattle.ug_laws.specs.declared.disk_event.DiskEvent.{DiskEvent}
use Rattle.ug_laws.specs.declared.disk_event.DiskEvent.TheVariants.{World as InWorld, Note, Save}
use Rattle.ug_laws.specs.declared.disk_event.DiskEvent.TheVariants.{Crash, Stop}
use Rattle.ug_model.specs.declared.halt.Halted.{Halted}
use Rattle.ug_model.specs.declared.halt.Halted.TheVariants.{NoSuch, NoRank, NotAllowed, Refused}
use Rattle.ug_model.specs.declared.halt.Halted.TheVariants.{Memory}
use Rattle.ug_laws.specs.DiskEvents.{rank_of}
use Rattle.ug_laws.specs.Machines.{DiskWorld}

-- the same cause, where there is no disk
abbrev pub halted_by : Halt → Halted
halted_by (NoSuchThere place) = NoSuch place
halted_by NoMemory = Memory

-- the event names this rank, and the run has fewer
pub record IsPastRanks (ranks : ℕ) (event : Event) (halted : Halted) : Type 0 where
  pub rank : ℕ
  pub names : rank_of event ≡ Some rank
  pub few : ranks ≤ rank
  pub is : halted ≡ NoRank rank

-- the last restart was refused, and nothing but another restart happens
pub record IsRefused (w : DiskWorld) (halted : Halted) : Type 0 where
  pub fault : StartFault
  pub was : w.refused ≡ Some fault
  pub is : halted ≡ Refused fault

-- power fails and leaves these bytes, which it may
pub record IsLeft (zero one : List ℕ) (old new : DiskWorld) : Type 0 where
  pub allowed : MayLeaveBoth old.told.now zero one
  pub rest : new ≡ record old { told = begun zero one }

-- why it did not leave them: it may not, or memory ran out
abbrev pub IsNotLeft : List ℕ → List ℕ → DiskWorld → DiskWorld → Halted → Type 0
IsNotLeft zero one old new (NotAllowed slot) =
    IsFirstForbidden old.told.now zero one slot × (new ≡ old)
IsNotLeft zero one old new Memory = new ≡ old
IsNotLeft zero one old new halted = ⊥

-- why nothing is noted or saved
abbrev pub IsStill : DiskWorld → DiskWorld → Halted → Type 0
IsStill old new (Refused fault) = (old.refused ≡ Some fault) × (new ≡ old)
IsStill old new Memory = new ≡ old
IsStill old new halted = ⊥

-- why nothing happens between the coordinator and its solvers
abbrev pub IsOutOfWorld : Event → DiskWorld → DiskWorld → Halted → Type 0
IsOutOfWorld event old new (NoSuch place) = IsPast old.world event place × (new ≡ old)
IsOutOfWorld event old new (NoRank rank) =
    (rank_of event ≡ Some rank) × (length old.world.book.ranks ≤ rank) × (new ≡ old)
IsOutOfWorld event old new (Refused fault) = (old.refused ≡ Some fault) × (new ≡ old)
IsOutOfWorld event old new Memory = IsLeftBy (Some event) old.world.book new.world.book
    × (new ≡ record old { world = new.world })
IsOutOfWorld event old new (NotAllowed slot) = ⊥

-- why an event did not happen
abbrev pub IsHalted : DiskWorld → DiskEvent → DiskWorld → Halted → Type 0
IsHalted old (InWorld event) new halted = IsOutOfWorld event old new halted
IsHalted old Note new halted = IsStill old new halted
IsHalted old Save new halted = IsStill old new halted
IsHalted old (Crash zero one settings) new halted = IsNotLeft zero.items one.items old new halted
IsHalted old (Stop settings) new halted = ⊥
