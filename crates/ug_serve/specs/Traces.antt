-- How a worker's actions follow from each other, and which bytes they are on its link.
use Rattle.std.specs.Prelude.{◌≡◌, false, List, [], ◌∷◌, ◌++◌, IfSome}
use Rattle.ug_io.specs.declared.link.Said.{Said}
use Rattle.ug_io.specs.Links.{LinkSeen, heard, told}
use Rattle.ug_frames.specs.declared.order.Order.{Order}
use Rattle.ug_frames.specs.declared.report.Report.{Report}
use Rattle.ug_frames.specs.OrderFrames as orders
use Rattle.ug_frames.specs.ReportFrames as reports
use Rattle.ug_stream.specs.Streams.{IsGiven, Waiting, fed, first}
use Rattle.ug_serve.specs.Actions.{Action, Came, Took, Told, Stage, Blank, IsTaken, IsTold}

-- what was said over the link, the bytes that came and of which no order was taken yet, and where
-- the worker stands
pub record ServerState : Type 0 where
  pub said : List Said
  pub waiting : Waiting
  pub stage : Stage

-- before anything was said
abbrev pub beginning : ServerState
beginning = record { said = []; waiting = first; stage = Blank }

-- an order was taken whose frame was the front of what waited
pub record TakesOrder (old new : ServerState) (order : Order) : Type 0 where
  pub given : IsGiven orders.IsCarried orders.spelled old.waiting new.waiting order
  pub taken : IsTaken old.stage order new.stage
  pub said : new.said ≡ old.said

-- a report was sent, by its frame
pub record TellsReport (old new : ServerState) (report : Report) : Type 0 where
  pub carried : reports.IsCarried report
  pub due : IsTold old.stage report new.stage
  pub said : new.said ≡ old.said ++ told (reports.spelled report)
  pub waiting : new.waiting ≡ old.waiting

-- what an action does
abbrev pub NextState : ServerState → Action → ServerState → Type 0
NextState old (Came bytes) new =
    new ≡ record old { said = old.said ++ heard bytes; waiting = fed old.waiting bytes }
NextState old (Took order) new = TakesOrder old new order
NextState old (Told report) new = TellsReport old new report

-- the actions lead from one state to the other
abbrev pub IsTrace : ServerState → List Action → ServerState → Type 0
IsTrace old [] new = new ≡ old
IsTrace old (action ∷ actions) new = (mid : ServerState) × NextState old action mid × IsTrace mid actions new

-- a worker's actions, from the beginning, led to this state
pub record Reaches (now : ServerState) : Type 0 where
  pub actions : List Action
  pub trace : IsTrace beginning actions now

-- nothing was said over the link, it has not ended, and no call of it failed
pub record IsFresh (seen : LinkSeen) : Type 0 where
  pub said : IfSome seen.said (λ said. said ≡ [])
  pub ended : seen.ended ≡ false
  pub faults : seen.faults ≡ 0
