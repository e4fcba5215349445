-- How a worker that serves a link stands, and how its service ends.
use Rattle.std.specs.Prelude.{◌≡◌, ◌⊎◌, ℕ, ◌<◌, true, false, List, ◌++◌, Option, Some, None, IfSome}
use Rattle.ug_io.specs.declared.link.Said.{Said}
use Rattle.ug_io.specs.Links.{LinkSeen, told}
use Rattle.ug_frames.specs.declared.decoded.Decoded.TheVariants.{Bad}
use Rattle.ug_frames.specs.declared.order.Order.{Order}
use Rattle.ug_frames.specs.declared.report.Report.{Report}
use Rattle.ug_frames.specs.Fronts.{BeginsWith, IsDecoded}
use Rattle.ug_frames.specs.OrderFrames as orders
use Rattle.ug_frames.specs.ReportFrames as reports
use Rattle.ug_stream.specs.Streams.{IsGiven, Waiting}
use Rattle.ug_serve.specs.Traces.{Reaches, ServerState}
use Rattle.ug_serve.specs.Actions.{Blank, Busy, Ending, Free, Over, SetUp, Stage, IsTaken, IsTold}
use Rattle.ug_serve.specs.declared.served.Served.{Served}
use Rattle.ug_serve.specs.declared.served.Served.TheVariants.{BadFrame, Ended, LinkFault, Memory}

-- the end was not ordered yet
abbrev pub IsOpen : Stage → Type 0
IsOpen Blank = Unit {0}
IsOpen (SetUp basis) = Unit {0}
IsOpen (Free basis round_count) = Unit {0}
IsOpen (Busy basis round_count e) = Unit {0}
IsOpen Ending = ⊥
IsOpen Over = ⊥

-- a worker's actions led to this state; the link, where it says what was said, sends the same; it
-- has not ended, and no call of it failed
pub record IsOn (seen : LinkSeen) (now : ServerState) : Type 0 where
  pub come : Reaches now
  pub said : IfSome seen.said (λ said. said ≡ now.said)
  pub ended : seen.ended ≡ false
  pub faults : seen.faults ≡ 0

-- so it is, where these bytes wait, at this stage
pub record StandsOn (seen : LinkSeen) (waiting : Waiting) (stage : Stage) : Type 0 where
  pub said : List Said
  pub on : IsOn seen (record { said = said; waiting = waiting; stage = stage })

-- beside what was said then, a front was sent of the frame of a report that was due
pub record IsPartTold (now : ServerState) (said : List Said) : Type 0 where
  pub report : Report
  pub next : Stage
  pub due : IsTold now.stage report next
  pub carried : reports.IsCarried report
  pub front : List ℕ
  pub rest : List ℕ
  pub parts : reports.spelled report ≡ front ++ rest
  pub same : said ≡ now.said ++ told front

-- what was sent is a prefix of what a worker sends
pub record IsFront (seen : LinkSeen) (now : ServerState) : Type 0 where
  pub come : Reaches now
  pub said : IfSome seen.said (λ said. (said ≡ now.said) ⊎ IsPartTold now said)

-- no call failed, and the link ended before the end was ordered
pub record IsCutOff (seen : LinkSeen) (stage : Stage) : Type 0 where
  pub ended : seen.ended ≡ true
  pub faults : seen.faults ≡ 0
  pub running : IsOpen stage

-- a call of the link failed, or it ended before the end was ordered
pub record HasFailed (seen : LinkSeen) : Type 0 where
  pub now : ServerState
  pub front : IsFront seen now
  pub cause : (0 < seen.faults) ⊎ IsCutOff seen now.stage

-- the bytes are the frame of an order that is not due, and what may follow
pub record IsUndue (stage : Stage) (bytes : List ℕ) : Type 0 where
  pub order : Order
  pub begins : BeginsWith orders.IsCarried orders.spelled bytes order
  pub undue : (new : Stage) → ¬ IsTaken stage order new

-- from this place on, behind whole orders that were due, none of them End, the bytes that came are
-- bad, or begin with an order that is not due
pub record HasMetBad (seen : LinkSeen) (at : ℕ) : Type 0 where
  pub now : ServerState
  pub on : IsOn seen now
  pub place : at ≡ now.waiting.at
  pub running : IsOpen now.stage
  pub bad : IsDecoded orders.IsCarried orders.spelled now.waiting.bytes Bad
      ⊎ IsUndue now.stage now.waiting.bytes

-- the end was ordered, and Ended was sent
pub record HasEnded (seen : LinkSeen) : Type 0 where
  pub now : ServerState
  pub on : IsOn seen now
  pub over : now.stage ≡ Over

-- memory ran out, and what was sent is a prefix of what a worker sends
pub record HasWanted (seen : LinkSeen) : Type 0 where
  pub now : ServerState
  pub front : IsFront seen now

-- how the service of a link ended
abbrev pub HasServed : LinkSeen → Served → Type 0
HasServed seen Ended = HasEnded seen
HasServed seen LinkFault = HasFailed seen
HasServed seen (BadFrame at) = HasMetBad seen at
HasServed seen Memory = HasWanted seen

-- the service continues at this stage, or has ended
abbrev pub stands_as : Option Served → LinkSeen → Waiting → Stage → Type 0
stands_as None seen waiting stage = StandsOn seen waiting stage
stands_as (Some end) seen waiting stage = HasServed seen end

-- the service has ended
abbrev pub has_ended : Option Served → LinkSeen → Type 0
has_ended None seen = ⊥
has_ended (Some end) seen = HasServed seen end

-- an order came next, at this place of what was received, and waits to be obeyed or refused
pub record HasNext (seen : LinkSeen) (waiting : Waiting) (stage : Stage) (order : Order) (at : ℕ)
    : Type 0 where
  pub said : List Said
  pub before : Waiting
  pub on : IsOn seen (record { said = said; waiting = before; stage = stage })
  pub given : IsGiven orders.IsCarried orders.spelled before waiting order
  pub place : at ≡ before.at

-- what came next: an order, or none, where none was there or the service has ended
abbrev pub comes_next : Option Served → LinkSeen → Waiting → Stage → ℕ → Option Order → Type 0
comes_next end seen waiting stage at (Some order) =
    (end ≡ None) × HasNext seen waiting stage order at
comes_next end seen waiting stage at None = stands_as end seen waiting stage
