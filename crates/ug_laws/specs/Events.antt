-- Which events a schedule may have, and what they send.
use Rattle.std.specs.Prelude.{◌≡◌, ℕ, ◌<◌, ◌≤◌, List, [], ◌∷◌, length, take, flat_map, Some}
use Rattle.std.specs.Prelude.{slice_get}
use Rattle.ug_frames.specs.declared.report.Report.{Report}
use Rattle.ug_rules.specs.Hearing.{IsHearable}
use Rattle.ug_laws.specs.declared.event.Event.{Event}
use Rattle.ug_laws.specs.declared.event.Event.TheVariants.{Send, Hear, Join, Gone, Decide, Tell}

-- an event of a world with this many ranks: its rank exists, and a State that is sent has an open
-- node
abbrev pub IsEvent : ℕ → Event → Type 0
IsEvent ranks (Send report) = IsHearable report
IsEvent ranks (Hear place rank) = rank < ranks
IsEvent ranks (Join rank) = rank < ranks
IsEvent ranks (Gone rank) = rank < ranks
IsEvent ranks Decide = Unit {0}
IsEvent ranks Tell = Unit {0}

-- what an event sends
abbrev pub report_of : Event → List Report
report_of (Send report) = report ∷ []
report_of event = []

-- the reports that events send, the earliest first
abbrev pub sent_by : List Event → List Report
sent_by events = flat_map report_of events

-- event k receives the report at this place, and at most as many were sent before it
pub record IsMissing (events : List Event) (k place : ℕ) : Type 0 where
  pub rank : ℕ
  pub hears : slice_get events k ≡ Some (Hear place rank)
  pub few : length (sent_by (take k events)) ≤ place
