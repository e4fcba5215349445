-- Which events a schedule of a disk may have.
use Rattle.std.specs.Prelude.{ℕ, Option, None, Some}
use Rattle.ug_rules.specs.Books.{AreSettings}
use Rattle.ug_rules.specs.Hearing.{IsHearable}
use Rattle.ug_laws.specs.declared.event.Event.{Event}
use Rattle.ug_laws.specs.declared.event.Event.TheVariants.{Send, Hear, Join, Gone, Decide, Tell}
use Rattle.ug_laws.specs.declared.disk_event.DiskEvent.{DiskEvent}
use Rattle.ug_laws.specs.declared.disk_event.DiskEvent.TheVariants.{World as InWorld, Note, Save}
use Rattle.ug_laws.specs.declared.disk_event.DiskEvent.TheVariants.{Crash, Stop}

-- the rank that an event names, if it names one
abbrev pub rank_of : Event → Option ℕ
rank_of (Hear place rank) = Some rank
rank_of (Join rank) = Some rank
rank_of (Gone rank) = Some rank
rank_of event = None

-- a State that is sent has an open node
abbrev pub IsSendable : Event → Type 0
IsSendable (Send report) = IsHearable report
IsSendable (Hear place rank) = Unit {0}
IsSendable (Join rank) = Unit {0}
IsSendable (Gone rank) = Unit {0}
IsSendable Decide = Unit {0}
IsSendable Tell = Unit {0}

-- a report that is sent may be received, and the settings of a restart are valid
abbrev pub IsDiskEvent : DiskEvent → Type 0
IsDiskEvent (InWorld event) = IsSendable event
IsDiskEvent Note = Unit {0}
IsDiskEvent Save = Unit {0}
IsDiskEvent (Crash zero one settings) = AreSettings settings
IsDiskEvent (Stop settings) = AreSettings settings
