-- The end of a task that has no box left.
use Rattle.std.specs.Prelude.{◌≡◌, ◌≢◌, ℕ, List, length}
use Rattle.ug_rows.specs.declared.area.Interval.{Interval}
use Rattle.ug_problem.specs.Instances.{Instance, root_of}
use Rattle.ug_nodes.specs.declared.name.Ticket.{Ticket}
use Rattle.ug_nodes.specs.declared.node.Node.{Node}
use Rattle.ug_nodes.specs.Hands.{Agree}
use Rattle.ug_nodes.specs.Nodes.{box_of}
use Rattle.ug_frames.specs.declared.report.Ending.TheVariants.{Plain}
use Rattle.ug_frames.specs.declared.report.Report.TheVariants.{Done}
use Rattle.ug_ledger.specs.Ledgers.{Current, IsCurrent}
use Rattle.ug_rules.specs.declared.heard.Heard.{Heard}
use Rattle.ug_rules.specs.State.{BookState, ledger_of}
use Rattle.ug_rules.specs.Hearing.{IsDoneDue, after_hearing}
use Rattle.ug_base.specs.Tasks.{TaskState}

-- the task has this problem, and is of the node that was given under this ticket
pub record IsTaskOf (p : Instance) (its_ticket : Ticket) (node : Node) (task : TaskState)
    : Type 0 where
  pub problem : task.problem ≡ p
  pub ticket : task.ticket ≡ its_ticket
  pub whole : task.whole ≡ box_of (root_of p) node

-- it is of the rank's current ticket: problem, ticket and whole box are the book's
pub record IsOfTicket (b : BookState) (r : ℕ) (task : TaskState) : Type 0 where
  pub work : Current
  pub current : IsCurrent (ledger_of b) r work
  pub its : IsTaskOf b.problem work.ticket work.node task

-- how many hands of the task the book has taken: if there are as many, the first ones that agree
pub record AreFound (handed taken : List (List Interval)) (count : ℕ) : Type 0 where
  pub equal : length handed ≡ length taken → Agree handed taken count
  pub other : length handed ≢ length taken → count ≡ length taken

-- the task is of the rank's ticket, and its Done is judged by the hands that were found
pub record HasDone (r : ℕ) (task : TaskState) (answer : Heard) (old new : BookState)
    : Type 0 where
  pub of_ticket : IsOfTicket old r task
  pub found : ℕ
  pub hands : AreFound task.handed of_ticket.work.taken found
  pub due : IsDoneDue old found task.cutoff (length task.handed) answer
  pub done : new ≡ after_hearing answer r (Done task.ticket task.cutoff (length task.handed) Plain) old
