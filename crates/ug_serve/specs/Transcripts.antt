-- Properties of the reports that a worker sends, by the orders received and the reports sent
-- before. Here actions are listed the latest first.
use Rattle.std.specs.Prelude.{◌≡◌, ◌⊎◌, ℕ, ℤ, suc, ◌<◌, Bool, true, List, [], ◌∷◌, Contains}
use Rattle.std.specs.Prelude.{Option, None, Some, IfSome}
use Rattle.ug_rows.specs.declared.area.Interval.{Interval}
use Rattle.ug_rows.specs.Boxes.{IsBelow, IsInside}
use Rattle.ug_problem.specs.Better.{IsGood, cutoff_of}
use Rattle.ug_problem.specs.Feasible.{Feasible}
use Rattle.ug_problem.specs.Instances.{root_of}
use Rattle.ug_branch.specs.declared.params.Params.{Params}
use Rattle.ug_nodes.specs.declared.name.Ticket.{Ticket}
use Rattle.ug_nodes.specs.declared.change.Change.{Change}
use Rattle.ug_nodes.specs.Changes.{AreChangesOf, area_by}
use Rattle.ug_records.specs.Answers.{IsRecordOf}
use Rattle.ug_frames.specs.declared.order.Order.{Order}
use Rattle.ug_frames.specs.declared.order.Order.TheVariants.{Setup, Work, Incumbent, Winner, End}
use Rattle.ug_frames.specs.declared.report.Report.{Report}
use Rattle.ug_frames.specs.declared.report.Report.TheVariants.{Ready, Solution, Hand, State, Done}
use Rattle.ug_frames.specs.declared.report.Report.TheVariants.{Ended}
use Rattle.ug_frames.specs.Honest.{IsInHands}
use Rattle.ug_serve.specs.Actions.{Basis, Action, Came, Took, Told}

-- the actions, the latest first, behind earlier ones
abbrev pub turned : List Action → List Action → List Action
turned past [] = past
turned past (action ∷ actions) = turned (action ∷ past) actions

-- the reports that were sent, the latest first
abbrev pub reports_in : List Action → List Report
reports_in [] = []
reports_in (Came bytes ∷ past) = reports_in past
reports_in (Took order ∷ past) = reports_in past
reports_in (Told report ∷ past) = report ∷ reports_in past

-- how many boxes were handed
abbrev pub hands_among : List Report → ℕ
hands_among [] = 0
hands_among (Hand ticket number changes ∷ reports) = suc (hands_among reports)
hands_among (report ∷ reports) = hands_among reports

-- this problem was ordered, with this gap
pub record IsSetUpWith (past : List Action) (basis : Basis) : Type 0 where
  pub bytes : List ℕ
  pub among : Contains past (Took (Setup basis.gap bytes))
  pub its : IsRecordOf bytes basis.problem

-- an order of work
pub record Ordered : Type 0 where
  pub ticket : Ticket
  pub params : Params
  pub race : Bool
  pub cutoff : Option ℤ
  pub changes : List Change

abbrev pub order_of : Ordered → Order
order_of work = Work work.ticket work.params work.race work.cutoff work.changes

-- which one an order is, if it is one
abbrev pub work_of : Order → Option Ordered
work_of (Work ticket params race cutoff changes) = Some (record {
  ticket = ticket;
  params = params;
  race = race;
  cutoff = cutoff;
  changes = changes;
})
work_of order = None

-- the later of two, if there is one
abbrev pub later_of : Option Ordered → Option Ordered → Option Ordered
later_of None before = before
later_of (Some work) before = Some work

-- the last order of work
abbrev pub last_work : List Action → Option Ordered
last_work [] = None
last_work (Came bytes ∷ past) = last_work past
last_work (Took order ∷ past) = later_of (work_of order) (last_work past)
last_work (Told report ∷ past) = last_work past

-- behind an order: nothing yet where it is one of work
abbrev pub since_order : Option Ordered → Order → List Action → List Action
since_order None order since = Took order ∷ since
since_order (Some work) order since = []

-- the actions behind the last order of work
abbrev pub since_work : List Action → List Action
since_work [] = []
since_work (Came bytes ∷ past) = Came bytes ∷ since_work past
since_work (Took order ∷ past) = since_order (work_of order) order (since_work past)
since_work (Told report ∷ past) = Told report ∷ since_work past

-- what was sent behind it
abbrev pub told_since : List Action → List Report
told_since past = reports_in (since_work past)

-- the box that is to be searched
abbrev pub box_of : Basis → Ordered → List Interval
box_of basis work = area_by (root_of basis.problem) work.changes

-- the last order of work is under this ticket, and of a box below the root
pub record IsUnder (basis : Basis) (past : List Action) (ticket : Ticket) : Type 0 where
  pub work : Ordered
  pub last : last_work past ≡ Some work
  pub its : work.ticket ≡ ticket
  pub valid : AreChangesOf (root_of basis.problem) work.changes

-- the cutoff is that of a point that was sent since
pub record IsOfPoint (basis : Basis) (since : List Action) (ticket : Ticket) (cutoff : ℤ)
    : Type 0 where
  pub point : List ℤ
  pub among : Contains since (Told (Solution ticket point))
  pub its : cutoff ≡ cutoff_of basis.problem basis.gap point

-- the cutoff came with the order of work, was ordered since, or is that of a point that was sent
abbrev pub IsKnown : Basis → Ordered → List Action → ℤ → Type 0
IsKnown basis work since cutoff = (work.cutoff ≡ Some cutoff)
    ⊎ (Contains since (Took (Incumbent cutoff)) ⊎ IsOfPoint basis since work.ticket cutoff)

-- ---- what each report says

-- a feasible point
pub record IsPointTold (basis : Basis) (past : List Action) (ticket : Ticket) (x : List ℤ)
    : Type 0 where
  pub under : IsUnder basis past ticket
  pub feasible : Feasible basis.problem x

-- A box below that of the ticket, under the number of those that were handed before. If others
-- have the ticket's box, the race was won.
pub record IsBoxTold (basis : Basis) (past : List Action) (ticket : Ticket) (number : ℕ)
    (changes : List Change) : Type 0 where
  pub under : IsUnder basis past ticket
  pub numbered : number ≡ hands_among (told_since past)
  pub valid : AreChangesOf (root_of basis.problem) changes
  pub below : IsBelow (area_by (root_of basis.problem) changes) (box_of basis under.work)
  pub won : under.work.race ≡ true → Contains (since_work past) (Took (Winner ticket))

-- some boxes are left
pub record IsRestTold (basis : Basis) (past : List Action) (ticket : Ticket) (nodes : ℕ)
    : Type 0 where
  pub under : IsUnder basis past ticket
  pub some : 0 < nodes

-- Each feasible point of the ticket's box with a value below the cutoff lies in one of the boxes
-- that were handed, which are this many.
pub record IsEndOfTask (basis : Basis) (past : List Action) (ticket : Ticket)
    (cutoff : Option ℤ) (count : ℕ) : Type 0 where
  pub under : IsUnder basis past ticket
  pub counted : count ≡ hands_among (told_since past)
  pub known : IfSome cutoff (IsKnown basis under.work (since_work past))
  pub searched : (x : List ℤ) → IsInside (box_of basis under.work) x
      → IsGood basis.problem cutoff x
      → IsInHands (root_of basis.problem) (told_since past) ticket count x

-- properties at the time when the report is sent: Ready is the first one, and Ended comes behind
-- the order
abbrev pub IsSaid : Basis → List Action → Report → Type 0
IsSaid basis past Ready = reports_in past ≡ []
IsSaid basis past (Solution ticket x) =
    Contains past (Told Ready) × IsPointTold basis past ticket x
IsSaid basis past (Hand ticket number changes) =
    Contains past (Told Ready) × IsBoxTold basis past ticket number changes
IsSaid basis past (State ticket nodes floor) =
    Contains past (Told Ready) × IsRestTold basis past ticket nodes
IsSaid basis past (Done ticket cutoff count ending) =
    Contains past (Told Ready) × IsEndOfTask basis past ticket cutoff count
IsSaid basis past Ended = Contains past (Told Ready) × Contains past (Took End)

-- so it is of each report
abbrev pub AreSaid : Basis → List Action → Type 0
AreSaid basis [] = Unit {0}
AreSaid basis (Came bytes ∷ past) = AreSaid basis past
AreSaid basis (Took order ∷ past) = AreSaid basis past
AreSaid basis (Told report ∷ past) = IsSaid basis past report × AreSaid basis past

-- Nothing is sent before a problem is ordered, and then each report is as it has to be.
pub record IsTranscript (past : List Action) : Type 0 where
  pub set_up : (reports_in past ≡ []) ⊎ ((basis : Basis) × IsSetUpWith past basis)
  pub said : (basis : Basis) → IsSetUpWith past basis → AreSaid basis past
