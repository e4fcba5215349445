-- When a ledger is sound: in six parts, four of which hold whatever was received.
use Rattle.std.specs.Prelude.{◌≡◌, ℕ, ℤ, ◌<◌, List, length, Contains, Option}
use Rattle.ug_rows.specs.declared.area.Interval.{Interval}
use Rattle.ug_rows.specs.Boxes.{IsBelow, IsInside, box_at}
use Rattle.ug_problem.specs.Instances.{Instance, root_of}
use Rattle.ug_problem.specs.Incumbents.{Incumbent}
use Rattle.ug_problem.specs.Better.{Better, Covered}
use Rattle.ug_nodes.specs.declared.name.Ticket.{Ticket}
use Rattle.ug_nodes.specs.declared.name.Name.{Name}
use Rattle.ug_nodes.specs.declared.node.Node.{Node}
use Rattle.ug_nodes.specs.Lines.{DoTicketsRise, GoesOn, IsAncestor, line_name_at}
use Rattle.ug_nodes.specs.Names.{IsTicketBefore}
use Rattle.ug_nodes.specs.Nodes.{box_of}
use Rattle.ug_ledger.specs.Ledgers.{Current, IsCurrent, IsGiven, IsInNodeBelow, Ledger, boxes_of}
use Rattle.ug_ledger.specs.Ledgers.{hand_name}
use Rattle.ug_ledger.specs.Names.{AreNamed}

-- each held node has a name of its own, and a line of given tickets that rise from number 0; each
-- current ticket is a given one, of one rank alone, for a held node, and after all in its line
pub record AreTicketed (l : Ledger) : Type 0 where
  pub named : AreNamed l.held
  pub rise : (n : Node) → Contains l.held n → DoTicketsRise n.line
  pub first : (n : Node) → Contains l.held n → (line_name_at n.line 0).ticket.number ≡ 0
  pub given : (n : Node) → Contains l.held n → (name : Name) → Contains n.line name
      → IsGiven l.last name.ticket
  pub current : (r : ℕ) (c : Current) → IsCurrent l r c → IsGiven l.last c.ticket
  pub held : (r : ℕ) (c : Current) → IsCurrent l r c → Contains l.held c.node
  pub after : (r : ℕ) (c : Current) → IsCurrent l r c → (name : Name) → Contains c.node.line name
      → IsTicketBefore name.ticket c.ticket
  pub differ : (q r : ℕ) (c d : Current) → IsCurrent l q c → IsCurrent l r d
      → c.ticket ≡ d.ticket → q ≡ r

-- the box of a held node is below that of each held ancestor
abbrev pub AreNested : List Interval → Ledger → Type 0
AreNested root l =
    (a b : Node) → Contains l.held a → Contains l.held b → IsAncestor a.line b.line
    → IsBelow (box_of root b) (box_of root a)

-- the line continues that of the ticket's node by the name of hand i, and this hand was kept
pub record GoesThrough (line : List Name) (c : Current) (i : ℕ) : Type 0 where
  pub on : GoesOn line c.node.line (hand_name c.ticket i)
  pub kept : i < length c.taken

-- each held line that has the name of a hand under a current ticket goes through that hand
abbrev pub AreHanded : Ledger → Type 0
AreHanded l =
    (r : ℕ) (c : Current) → IsCurrent l r c → (n : Node) → Contains l.held n
    → (i : ℕ) → Contains n.line (hand_name c.ticket i) → GoesThrough n.line c i

-- each better point in the box of a hand kept under a current ticket is in a held node below it
abbrev pub AreBacked : Instance → ℤ → Incumbent → Ledger → Type 0
AreBacked p gap best l =
    (r : ℕ) (c : Current) → IsCurrent l r c → (i : ℕ) → i < length c.taken
    → (x : List ℤ) → Better p gap best x → IsInside (box_at c.taken i) x
    → IsInNodeBelow (root_of p) l.held (hand_name c.ticket i) x

-- some rank works on the node, and its current ticket is this
pub record IsWorkedOn (l : Ledger) (n : Node) (ticket : Ticket) : Type 0 where
  pub rank : ℕ
  pub work : Current
  pub current : IsCurrent l rank work
  pub its_node : work.node ≡ n
  pub its_ticket : work.ticket ≡ ticket

-- if a held line continues that of a held node by a name, a rank works on this node under the
-- ticket of the name
abbrev pub AreWorkedOn : Ledger → Type 0
AreWorkedOn l =
    (a b : Node) → Contains l.held a → Contains l.held b → (name : Name)
    → GoesOn b.line a.line name → IsWorkedOn l a name.ticket

-- a sound ledger, for a problem, a gap and an incumbent: its six parts
pub record Sound (p : Instance) (gap : ℤ) (best : Incumbent) (l : Ledger) : Type 0 where
  pub covered : Covered p gap best (boxes_of (root_of p) l.held)
  pub ticketed : AreTicketed l
  pub nested : AreNested (root_of p) l
  pub handed : AreHanded l
  pub backed : AreBacked p gap best l
  pub worked : AreWorkedOn l

-- the invariant of every ledger, whatever was received
pub record IsLedger (root : List Interval) (l : Ledger) : Type 0 where
  pub ticketed : AreTicketed l
  pub nested : AreNested root l
  pub handed : AreHanded l
  pub worked : AreWorkedOn l

-- and what a sound one is besides: no better point is lost
pub record LosesNone (p : Instance) (gap : ℤ) (best : Incumbent) (l : Ledger)
    : Type 0 where
  pub covered : Covered p gap best (boxes_of (root_of p) l.held)
  pub backed : AreBacked p gap best l
