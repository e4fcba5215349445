-- The nodes held, and the assignments for which the tickets of the ranks are current.
use Rattle.std.specs.Prelude.{◌≡◌, ℕ, ℤ, ◌≤◌, List, Contains, Option, Some, None, map}
use Rattle.std.specs.Prelude.{slice_index_or}
use Rattle.ug_rows.specs.declared.area.Interval.{Interval}
use Rattle.ug_rows.specs.Boxes.{IsInside}
use Rattle.ug_nodes.specs.declared.name.Ticket.{Ticket}
use Rattle.ug_nodes.specs.declared.name.Name.{Name}
use Rattle.ug_nodes.specs.declared.node.Node.{Node}
use Rattle.ug_nodes.specs.Nodes.{box_of}

-- a current ticket: the node given with it, and the boxes of the hands kept under it, in order
pub record Current : Type 0 where
  pub ticket : Ticket
  pub node : Node
  pub taken : List (List Interval)

-- the nodes held, for what the ticket of each rank is current, if any, and the last ticket given
pub record Ledger : Type 0 where
  pub held : List Node
  pub ranks : List (Option Current)
  pub last : Ticket

-- the ticket of rank r is current, for this
abbrev pub IsCurrent : Ledger → ℕ → Current → Type 0
IsCurrent l r c = slice_index_or l.ranks r None ≡ Some c

-- the name of hand i under a ticket
abbrev pub hand_name : Ticket → ℕ → Name
hand_name ticket i = record { ticket = ticket; hand = i }

-- the boxes of the nodes
abbrev pub boxes_of : List Interval → List Node → List (List Interval)
boxes_of root nodes = map (box_of root) nodes

-- x lies in the box of one of the nodes whose line has this name
pub record IsInNodeBelow (root : List Interval) (nodes : List Node) (name : Name) (x : List ℤ)
    : Type 0 where
  pub node : Node
  pub there : Contains nodes node
  pub below : Contains node.line name
  pub inside : IsInside (box_of root node) x

-- the ticket is of the run of the last one given, and not after it
pub record IsGiven (last ticket : Ticket) : Type 0 where
  pub run : ticket.run ≡ last.run
  pub number : ticket.number ≤ last.number
