-- What a rank works on under its ticket.
use Rattle.std.specs.Prelude.{◌≡◌, Bool, true, false, Option, Some}
use Rattle.ug_branch.specs.declared.params.Params.{Params}
use Rattle.ug_nodes.specs.declared.name.Ticket.{Ticket}
use Rattle.ug_nodes.specs.declared.node.Node.{Node}
use Rattle.ug_pool.specs.declared.entry.Entry.{Entry}
use Rattle.ug_ranks.specs.declared.state.State.{State}
use Rattle.ug_ranks.specs.declared.state.State.TheVariants.{Racing, Active}
use Rattle.ug_book.specs.declared.current.CurrentWork.{CurrentWork}

-- it is of this ticket, for this node
pub record IsWorkOf (ticket : Ticket) (node : Node) (params : Params) (races : Bool)
    (current : CurrentWork) : Type 0 where
  pub its_ticket : current.ticket ≡ ticket
  pub its_node : current.node.now ≡ node
  pub its_params : current.params ≡ params
  pub racing : current.is_racing ≡ races

-- it is that of a rank in this state, where this node is raced, if one is
abbrev pub IsCurrentAt : State → Option Entry → CurrentWork → Type 0
IsCurrentAt (Racing racer) (Some entry) current =
    IsWorkOf racer.ticket entry.node racer.params true current
IsCurrentAt (Active work) raced current =
    IsWorkOf work.ticket work.node work.params false current
IsCurrentAt state raced current = ⊥
