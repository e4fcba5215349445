-- The contents of a book, and its ledger.
use Rattle.std.specs.Prelude.{ℕ, ℤ, ◌++◌, List, [], ◌∷◌, map, flat_map, Option, Some, None}
use Rattle.std.specs.Option.{option_map, option_to_list}
use Rattle.ug_problem.specs.Instances.{Instance}
use Rattle.ug_problem.specs.Better.{best_cutoff}
use Rattle.ug_nodes.specs.declared.name.Ticket.{Ticket}
use Rattle.ug_nodes.specs.declared.node.Node.{Node}
use Rattle.ug_pool.specs.declared.entry.Entry.{Entry}
use Rattle.ug_ranks.specs.declared.state.Racer.{Racer}
use Rattle.ug_ranks.specs.declared.state.Work.{Work}
use Rattle.ug_ranks.specs.declared.state.State.{State}
use Rattle.ug_ranks.specs.declared.state.State.TheVariants.{Racing, Active}
use Rattle.ug_ledger.specs.Ledgers.{Current, Ledger}
use Rattle.ug_rules.specs.declared.settings.Settings.{Settings}
use Rattle.ug_rules.specs.declared.told.Told.{Told}

-- the problem, the run and its settings; the incumbent; the pool in order; the ranks; the raced
-- node with its floor, if there is a race; the last ticket number given; the orders queued, the
-- earliest first; the number of reports received; and the incumbent's cutoff that was last
-- announced
pub record BookState : Type 0 where
  pub problem : Instance
  pub run : ℕ
  pub settings : Settings
  pub best : Option (List ℤ)
  pub pool : List Entry
  pub ranks : List State
  pub raced : Option Entry
  pub last : ℕ
  pub orders : List Told
  pub heard : ℕ
  pub announced : Option ℤ

-- the incumbent's cutoff
abbrev pub cutoff_of_best : BookState → Option ℤ
cutoff_of_best b = best_cutoff b.problem b.settings.gap b.best

-- a ticket of the book's run
abbrev pub ticket_with : BookState → ℕ → Ticket
ticket_with b number = record { run = b.run; number = number }

-- the node that a rank works on
abbrev pub node_at : State → List Node
node_at (Active work) = work.node ∷ []
node_at state = []

-- the nodes of entries
abbrev pub nodes_in : List Entry → List Node
nodes_in entries = map (λ (entry : Entry). entry.node) entries

-- the nodes that ranks work on
abbrev pub nodes_of : List State → List Node
nodes_of states = flat_map node_at states

-- the node that is raced
abbrev pub raced_node : Option Entry → List Node
raced_node raced = nodes_in (option_to_list raced)

-- the nodes held: in the pool, with ranks, and the one that is raced
abbrev pub held_nodes : BookState → List Node
held_nodes b = nodes_in b.pool ++ nodes_of b.ranks ++ raced_node b.raced

-- what the work of a rank is current for
abbrev pub current_for : Work → Current
current_for work = record { ticket = work.ticket; node = work.node; taken = work.taken }

-- what a racer's ticket is current for: the node that is raced, with nothing taken
abbrev pub raced_for : Racer → Option Entry → Option Current
raced_for racer raced = option_map
    (λ (entry : Entry). record { ticket = racer.ticket; node = entry.node; taken = [] }) raced

-- what the ticket of a rank is current for, if it has one
abbrev pub current_of : Option Entry → State → Option Current
current_of raced (Racing racer) = raced_for racer raced
current_of raced (Active work) = Some (current_for work)
current_of raced state = None

-- the ledger of a book
abbrev pub ledger_of : BookState → Ledger
ledger_of b = record {
  held = held_nodes b;
  ranks = map (current_of b.raced) b.ranks;
  last = ticket_with b b.last;
}
