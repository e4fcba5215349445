-- Why an event did not happen, and what stands then.
use Rattle.std.specs.Prelude.{◌≡◌, ℕ, ◌≤◌, List, length, Some}
use Rattle.ug_frames.specs.declared.report.Report.{Report}
use Rattle.ug_laws.specs.declared.event.Event.{Event}
use Rattle.ug_laws.specs.declared.event.Event.TheVariants.{Hear}
use Rattle.ug_model.specs.declared.playing.Halt.{Halt}
use Rattle.ug_model.specs.declared.playing.Halt.TheVariants.{NoSuch, Memory}
use Rattle.ug_model.specs.declared.schedule.PlayFault.{PlayFault}
use Rattle.ug_model.specs.declared.schedule.PlayFault.TheVariants.{NoSuch as NoSuchFault}
use Rattle.ug_model.specs.declared.schedule.PlayFault.TheVariants.{Memory as MemoryFault}
use Rattle.ug_rules.specs.State.{BookState}
use Rattle.ug_laws.specs.Worlds.{World}
use Rattle.ug_model.specs.Plays.{IsLeftBy}

-- the event receives the report at this place, and at most as many were sent
pub record IsPast (w : World) (event : Event) (place : ℕ) : Type 0 where
  pub rank : ℕ
  pub hears : event ≡ Hear place rank
  pub few : length w.sent ≤ place

-- why there is no copy of the report at this place of those sent: it is not there, or memory ran
-- out
abbrev pub IsNotThere : List Report → ℕ → Halt → Type 0
IsNotThere sent place (NoSuch other) = (other ≡ place) × (length sent ≤ place)
IsNotThere sent place Memory = Unit {0}

-- it receives a report that was not sent, and nothing has changed; or memory ran out
abbrev pub IsHalted : World → Event → World → Halt → Type 0
IsHalted old event new (NoSuch place) = IsPast old event place × (new ≡ old)
IsHalted old event new Memory = IsLeftBy (Some event) old.book new.book

-- the fault, after this many events
abbrev pub fault_of : Halt → ℕ → BookState → PlayFault
fault_of (NoSuch place) done b = NoSuchFault place b
fault_of Memory done b = MemoryFault b done
