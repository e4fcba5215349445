-- How a worker's seat at a link stands.
use Rattle.std.specs.Prelude.{◌≡◌, ℕ, ℤ, Bool, true, false, List, Option, Some, None}
use Rattle.ug_io.specs.Links.{LinkSeen}
use Rattle.ug_problem.specs.Better.{IsGap}
use Rattle.ug_nodes.specs.declared.name.Ticket.{Ticket}
use Rattle.ug_frames.specs.Ranges.{IsGiven}
use Rattle.ug_frames.specs.declared.order.Order.{Order}
use Rattle.ug_base.specs.Tasks.{TaskState}
use Rattle.ug_stream.specs.Streams.{Waiting}
use Rattle.ug_serve.specs.declared.served.Served.{Served}
use Rattle.ug_serve.specs.declared.kept.Kept.{Kept}
use Rattle.ug_worker.specs.declared.round_count.RoundCount.{RoundCount}
use Rattle.ug_serve.specs.Actions.{Basis, Busy, Free, Stage, task_of}
use Rattle.ug_problem.specs.Instances.{root_of}
use Rattle.ug_branch.specs.declared.params.Params.{Params}
use Rattle.ug_nodes.specs.declared.change.Change.{Change}
use Rattle.ug_nodes.specs.Changes.{AreChangesOf, area_by}
use Rattle.ug_worker.specs.Engagements.{Engaged, lowered}
use Rattle.ug_serve.specs.Serving.{HasNext, has_ended, stands_as}

-- so it is of the task
pub record Agrees (k : Kept) (e : Engaged) : Type 0 where
  pub problem : e.task.problem ≡ k.problem
  pub gap : e.task.gap ≡ k.gap
  pub ticket : e.task.ticket ≡ k.ticket
  pub given : IsGiven k.ticket
  pub racing : e.racing ≡ k.racing
  pub asked : e.asked ≡ k.asked

-- if there is one
abbrev pub agrees : Kept → Option Engaged → Type 0
agrees k None = Unit {0}
agrees k (Some e) = Agrees k e

-- the problem and the gap
abbrev pub basis_of : Kept → Basis
basis_of k = record { problem = k.problem; gap = k.gap }

-- with the task, or without one
abbrev pub stage_of : Basis → RoundCount → Option Engaged → Stage
stage_of basis round_count None = Free basis round_count
stage_of basis round_count (Some e) = Busy basis round_count e

-- what the seat shows: how its service ended, if it has; its link; what waits; what it keeps; and
-- where the last order began
pub record SeatSeen : Type 0 where
  pub end : Option Served
  pub link : LinkSeen
  pub waiting : Waiting
  pub at : ℕ
  pub keeps : Kept

-- the seat has this task, or none, of a worker that made this many rounds
pub record IsSeated (s : SeatSeen) (round_count : RoundCount) (some : Option Engaged) : Type 0 where
  pub gap : IsGap s.keeps.gap
  pub agrees : agrees s.keeps some
  pub stands : stands_as s.end s.link s.waiting (stage_of (basis_of s.keeps) round_count some)

-- its service has ended
abbrev pub IsOver : SeatSeen → Type 0
IsOver s = has_ended s.end s.link

-- an order came next at the seat that has this task, or none
pub record IsOrdered (s : SeatSeen) (round_count : RoundCount) (some : Option Engaged) (order : Order)
    : Type 0 where
  pub gap : IsGap s.keeps.gap
  pub agrees : agrees s.keeps some
  pub on : s.end ≡ None
  pub next : HasNext s.link s.waiting (stage_of (basis_of s.keeps) round_count some) order s.at

-- the task continues, as it was but for a cutoff
pub record IsGoing (s : SeatSeen) (round_count : RoundCount) (task : TaskState) (cutoff : Option ℤ)
    : Type 0 where
  pub now : Engaged
  pub seated : IsSeated s round_count (Some now)
  pub made : now.made ≡ 0
  pub its : now.task ≡ lowered cutoff task

-- an order was obeyed between two rounds: the task continues, or it is dropped
abbrev pub IsObeyed : Bool → SeatSeen → RoundCount → TaskState → Option ℤ → Type 0
IsObeyed true s round_count task cutoff = IsGoing s round_count task cutoff
IsObeyed false s round_count task cutoff = IsSeated s round_count None

-- the task that an order of work begins, of changes that are those of a box below the root
pub record IsTaskOf (k : Kept) (ticket : Ticket) (params : Params) (cutoff : Option ℤ)
    (changes : List Change) (task : TaskState) : Type 0 where
  pub valid : AreChangesOf (root_of k.problem) changes
  pub same : task ≡ task_of (basis_of k) ticket params cutoff (area_by (root_of k.problem) changes)
