-- What goes between a coordinator and a worker over a link, and what the worker does at each piece
-- of it.
use Rattle.std.specs.Prelude.{◌≡◌, ◌≢◌, ◌⊎◌, ℕ, ℤ, Bool, false, List, [], ◌∷◌, length}
use Rattle.std.specs.Prelude.{Option, Some}
use Rattle.ug_rows.specs.declared.area.Interval.{Interval}
use Rattle.ug_problem.specs.Instances.{Instance, root_of}
use Rattle.ug_branch.specs.declared.params.Params.{Params}
use Rattle.ug_nodes.specs.declared.name.Ticket.{Ticket}
use Rattle.ug_nodes.specs.declared.change.Change.{Change}
use Rattle.ug_nodes.specs.Changes.{AreChangesOf, Spells, area_by}
use Rattle.ug_records.specs.Answers.{IsRecordOf}
use Rattle.ug_frames.specs.declared.order.Order.{Order}
use Rattle.ug_frames.specs.declared.order.Order.TheVariants.{Setup, Work, Incumbent, CollectIn}
use Rattle.ug_frames.specs.declared.order.Order.TheVariants.{CollectOut, Winner, Stop, End}
use Rattle.ug_frames.specs.declared.report.Report.{Report}
use Rattle.ug_frames.specs.declared.report.Report.TheVariants.{Ready, Solution, Hand, State, Done}
use Rattle.ug_frames.specs.declared.report.Report.TheVariants.{Ended}
use Rattle.ug_base.specs.Tasks.{TaskState}
use Rattle.ug_worker.specs.declared.round_count.RoundCount.{RoundCount}
use Rattle.ug_worker.specs.Engagements.{Engaged, IsDoneBy, IsFoundBy, IsHandedBy, IsStatedBy, lowered}
use Rattle.ug_worker.specs.Releases.{begun, counted, fresh, usual}

-- bytes came; an order was taken, whose frame had come; or a report was sent
pub data Action : Type 0 where
  Came : List ℕ → Action
  Took : Order → Action
  Told : Report → Action

-- the problem, and how far from the best an answer may be
pub record Basis : Type 0 where
  pub problem : Instance
  pub gap : ℤ

-- the stage of a worker: nothing was ordered yet; the problem came, and Ready is to be sent; it has
-- no task; it has one; the end was ordered, and Ended is to be sent; nothing comes after. From
-- Ready on it counts its rounds.
pub data Stage : Type 0 where
  Blank : Stage
  SetUp : Basis → Stage
  Free : Basis → RoundCount → Stage
  Busy : Basis → RoundCount → Engaged → Stage
  Ending : Stage
  Over : Stage

-- the search of a box that was just ordered, in which nothing was done yet
abbrev pub task_of : Basis → Ticket → Params → Option ℤ → List Interval → TaskState
task_of basis ticket params cutoff whole = record {
  problem = basis.problem;
  ticket = ticket;
  params = params;
  whole = whole;
  cutoff = cutoff;
  gap = basis.gap;
  boxes = whole ∷ [];
  handed = [];
}

-- ---- orders

-- a first order, with the record of a problem
pub record IsSetUp (old : Stage) (gap : ℤ) (bytes : List ℕ) (new : Stage) : Type 0 where
  pub problem : Instance
  pub blank : old ≡ Blank
  pub its : IsRecordOf bytes problem
  pub set : new ≡ SetUp (record { problem = problem; gap = gap })

-- an order of work where there is none, of a box below the root
pub record IsBegun (basis : Basis) (round_count : RoundCount) (ticket : Ticket) (params : Params)
    (race : Bool) (cutoff : Option ℤ) (changes : List Change) (new : Stage) : Type 0 where
  pub valid : AreChangesOf (root_of basis.problem) changes
  pub begins : new ≡ Busy basis (begun round_count) (record {
    task = task_of basis ticket params cutoff (area_by (root_of basis.problem) changes);
    made = 0;
    asked = 0;
    racing = race;
  })

-- an order under this ticket changes the task that has it, and is passed over at any other
pub record IsForTask (e : Engaged) (ticket : Ticket) (changed old new : Stage) : Type 0 where
  pub between : e.made ≡ 0
  pub done : ((ticket ≡ e.task.ticket) × (new ≡ changed))
      ⊎ ((ticket ≢ e.task.ticket) × (new ≡ old))

-- what the order does to a task, between two rounds
abbrev pub IsTakenBusy : Basis → RoundCount → Engaged → Order → Stage → Type 0
IsTakenBusy basis round_count e (Incumbent cutoff) new = (e.made ≡ 0)
    × (new ≡ Busy basis round_count (record e { task = lowered (Some cutoff) e.task }))
IsTakenBusy basis round_count e (CollectIn ticket count) new =
    IsForTask e ticket (Busy basis round_count (record e { asked = count })) (Busy basis round_count e) new
IsTakenBusy basis round_count e (CollectOut ticket) new =
    IsForTask e ticket (Busy basis round_count (record e { asked = 0 })) (Busy basis round_count e) new
IsTakenBusy basis round_count e (Winner ticket) new =
    IsForTask e ticket (Busy basis round_count (record e { racing = false })) (Busy basis round_count e) new
IsTakenBusy basis round_count e (Stop ticket) new =
    IsForTask e ticket (Free basis round_count) (Busy basis round_count e) new
IsTakenBusy basis round_count e End new = (e.made ≡ 0) × (new ≡ Ending)
IsTakenBusy basis round_count e order new = ⊥

-- what it does where there is no task
abbrev pub IsTakenFree : Basis → RoundCount → Order → Stage → Type 0
IsTakenFree basis round_count (Setup gap bytes) new = ⊥
IsTakenFree basis round_count (Work ticket params race cutoff changes) new =
    IsBegun basis round_count ticket params race cutoff changes new
IsTakenFree basis round_count End new = new ≡ Ending
IsTakenFree basis round_count order new = new ≡ Free basis round_count

-- what it does as the first one
abbrev pub IsTakenFirst : Order → Stage → Type 0
IsTakenFirst (Setup gap bytes) new = IsSetUp Blank gap bytes new
IsTakenFirst order new = ⊥

-- an order that is due was taken, and this is what it does: a Setup comes first and alone first,
-- and Work where there is no task
abbrev pub IsTaken : Stage → Order → Stage → Type 0
IsTaken Blank order new = IsTakenFirst order new
IsTaken (Free basis round_count) order new = IsTakenFree basis round_count order new
IsTaken (Busy basis round_count e) order new = IsTakenBusy basis round_count e order new
IsTaken stage order new = ⊥

-- ---- reports

-- a box that is handed, as its changes
pub record IsHandTold (basis : Basis) (round_count : RoundCount) (e : Engaged) (ticket : Ticket)
    (number : ℕ) (changes : List Change) (f : Engaged) : Type 0 where
  pub area : List Interval
  pub its : ticket ≡ e.task.ticket
  pub handed : IsHandedBy round_count e number area f
  pub spells : Spells (root_of basis.problem) changes area

-- the end of a task, its cutoff, and how many boxes were handed
pub record IsDoneTold (e : Engaged) (ticket : Ticket) (cutoff : Option ℤ) (count : ℕ) : Type 0 where
  pub task : TaskState
  pub its : ticket ≡ e.task.ticket
  pub done : IsDoneBy e task
  pub under : cutoff ≡ task.cutoff
  pub counted : count ≡ length task.handed

-- the reports sent of a task
abbrev pub IsToldBusy : Basis → RoundCount → Engaged → Report → Stage → Type 0
IsToldBusy basis round_count e (Solution ticket x) new =
    (f : Engaged) × (ticket ≡ e.task.ticket) × IsFoundBy e x f × (new ≡ Busy basis round_count f)
IsToldBusy basis round_count e (Hand ticket number changes) new =
    (f : Engaged) × IsHandTold basis round_count e ticket number changes f × (new ≡ Busy basis round_count f)
IsToldBusy basis round_count e (State ticket nodes floor) new =
    (f : Engaged) × (ticket ≡ e.task.ticket) × IsStatedBy round_count e nodes floor f
    × (new ≡ Busy basis (counted round_count) f)
IsToldBusy basis round_count e (Done ticket cutoff count ending) new =
    IsDoneTold e ticket cutoff count × (new ≡ Free basis round_count)
IsToldBusy basis round_count e report new = ⊥

abbrev pub IsReadyTold : Basis → Report → Stage → Type 0
IsReadyTold basis Ready new = new ≡ Free basis (fresh (Some usual))
IsReadyTold basis report new = ⊥

abbrev pub IsEndTold : Report → Stage → Type 0
IsEndTold Ended new = new ≡ Over
IsEndTold report new = ⊥

-- a report that is due was sent, and what is so then
abbrev pub IsTold : Stage → Report → Stage → Type 0
IsTold (SetUp basis) report new = IsReadyTold basis report new
IsTold (Busy basis round_count e) report new = IsToldBusy basis round_count e report new
IsTold Ending report new = IsEndTold report new
IsTold stage report new = ⊥
