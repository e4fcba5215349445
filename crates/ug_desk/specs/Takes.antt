-- What `take` does: the pass's rank joins, the book decides, and the answer says what the rank has.
use Rattle.std.specs.Prelude.{◌≡◌, ◌≢◌, ℕ, ◌<◌, ◌≤◌, ◌⊎◌, List, [], ◌∷◌, Option, Some, None}
use Rattle.std.specs.Prelude.{slice_set}
use Rattle.ug_problem.specs.Instances.{root_of}
use Rattle.ug_branch.specs.declared.params.Params.{Params}
use Rattle.ug_nodes.specs.declared.node.Node.{Node}
use Rattle.ug_nodes.specs.declared.name.Ticket.{Ticket}
use Rattle.ug_nodes.specs.Nodes.{box_of}
use Rattle.ug_frames.specs.declared.report.Report.TheVariants.{Ready}
use Rattle.ug_ranks.specs.declared.state.State.{State}
use Rattle.ug_ranks.specs.declared.state.State.TheVariants.{Idle, Racing, Active}
use Rattle.ug_ranks.specs.States.{state_at}
use Rattle.ug_ledger.specs.Ledgers.{Current, IsCurrent}
use Rattle.ug_rules.specs.State.{BookState, cutoff_of_best, held_nodes, ledger_of}
use Rattle.ug_rules.specs.Hearing.{kept}
use Rattle.ug_base.specs.Tasks.{TaskState}
use Rattle.ug_worker.specs.declared.took.Took.{Took}
use Rattle.ug_worker.specs.declared.took.Took.TheVariants.{Work, Wait, Over}
use Rattle.ug_worker.specs.declared.took.Untaken.{Untaken}
use Rattle.ug_worker.specs.declared.took.Untaken.TheVariants.{Deciding, Making}
use Rattle.ug_desk.specs.Decided.{HasDecided, HasStood}
use Rattle.ug_desk.specs.DeskStates.{DeskState}

-- the rank joined, where it was absent or dead: what a rank does whose Ready is kept
abbrev pub with_joined : ℕ → BookState → BookState
with_joined r b = kept r Ready b

-- no node is held, or the limit of reports is reached
abbrev pub IsOver : BookState → Type 0
IsOver b = (held_nodes b ≡ []) ⊎ (b.settings.limit ≤ b.heard)

-- neither is so
pub record IsUnderWay (b : BookState) : Type 0 where
  pub held : held_nodes b ≢ []
  pub below : b.heard < b.settings.limit

-- the parameters of the work of a rank in this state
abbrev pub params_at : State → Option Params
params_at (Racing racer) = Some racer.params
params_at (Active work) = Some work.params
params_at state = None

-- the task of a node that is given under a ticket: its whole box is left
abbrev pub task_of : BookState → Ticket → Params → Node → TaskState
task_of b ticket params node = record {
  problem = b.problem;
  ticket = ticket;
  params = params;
  whole = box_of (root_of b.problem) node;
  cutoff = cutoff_of_best b;
  gap = b.settings.gap;
  boxes = box_of (root_of b.problem) node ∷ [];
  handed = [];
}

-- a new task of the rank's current ticket
pub record IsNewTask (b : BookState) (r : ℕ) (task : TaskState) : Type 0 where
  pub work : Current
  pub current : IsCurrent (ledger_of b) r work
  pub params : params_at (state_at b.ranks r) ≡ Some task.params
  pub task_is : task ≡ task_of b work.ticket task.params work.node

-- the rank has work to do
pub record IsAtWork (b : BookState) (r : ℕ) (task : TaskState) : Type 0 where
  pub going : IsUnderWay b
  pub given : IsNewTask b r task

-- the rank has none
pub record IsWaiting (b : BookState) (r : ℕ) : Type 0 where
  pub going : IsUnderWay b
  pub idle : state_at b.ranks r ≡ Idle

-- which answer the book gives rank r
abbrev pub IsAnswer : BookState → ℕ → Took → Type 0
IsAnswer b r (Work task) = IsAtWork b r task
IsAnswer b r Wait = IsWaiting b r
IsAnswer b r Over = IsOver b

-- the ticket of work that was taken is the pass's last
abbrev pub tickets_after : Took → ℕ → List Ticket → List Ticket
tickets_after (Work task) r tickets = slice_set tickets r task.ticket
tickets_after Wait r tickets = tickets
tickets_after Over r tickets = tickets

-- the rank joined, it was decided, and this was answered
pub record HasAnswered (r : ℕ) (took : Took) (old new : BookState) : Type 0 where
  pub decided : HasDecided (with_joined r old) new
  pub answer : IsAnswer new r took

-- so the pass took this
pub record HasTaken (r : ℕ) (took : Took) (old new : DeskState) : Type 0 where
  pub answered : HasAnswered r took old.book new.book
  pub tickets : new.tickets ≡ tickets_after took r old.tickets

-- memory ran out: the first steps of the decision stand, or all of it
abbrev pub IsCutShort : ℕ → Untaken → BookState → BookState → Type 0
IsCutShort r (Deciding stood) old new = HasStood stood (with_joined r old) new
IsCutShort r Making old new = HasDecided (with_joined r old) new
