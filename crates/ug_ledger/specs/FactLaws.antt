-- Facts of every ledger.
use Rattle.std.specs.Prelude.{◌≡◌, ◌≢◌, ℕ, ℤ, ◌<◌, ◌↔◌, List, length, Contains, Option}
use Rattle.ug_rows.specs.declared.area.Interval.{Interval}
use Rattle.ug_problem.specs.Instances.{Instance, root_of}
use Rattle.ug_problem.specs.Incumbents.{Incumbent}
use Rattle.ug_nodes.specs.declared.node.Node.{Node}
use Rattle.ug_nodes.specs.Lines.{IsAncestor, line_name_at}
use Rattle.ug_nodes.specs.Names.{own_name}
use Rattle.ug_ledger.specs.Ledgers.{Current, IsCurrent, Ledger}
use Rattle.ug_ledger.specs.Sound.{IsLedger, LosesNone, Sound}

-- the six parts are two branches: what every ledger is, and that no better point is lost
abbrev pub SoundIsBoth : Type 0
SoundIsBoth =
    (p : Instance) (gap : ℤ) (best : Incumbent) (l : Ledger)
    → Sound p gap best l ↔ (IsLedger (root_of p) l × LosesNone p gap best l)

-- two held nodes of one name are one node
abbrev pub NameIsOfOne : Type 0
NameIsOfOne =
    (root : List Interval) (l : Ledger) → IsLedger root l → (a b : Node)
    → Contains l.held a → Contains l.held b → own_name a.line ≡ own_name b.line → a ≡ b

-- the names of a held line but the first have tickets of number 1 at least
abbrev pub NamesCountFromOne : Type 0
NamesCountFromOne =
    (root : List Interval) (l : Ledger) → IsLedger root l → (n : Node) → Contains l.held n
    → (k : ℕ) → 0 < k → k < length n.line → 0 < (line_name_at n.line k).ticket.number

-- so has each rank
abbrev pub TicketsCountFromOne : Type 0
TicketsCountFromOne =
    (root : List Interval) (l : Ledger) → IsLedger root l → (r : ℕ) (c : Current)
    → IsCurrent l r c → 0 < c.ticket.number

-- before the first ticket none is current
abbrev pub NoneIsCurrent : Type 0
NoneIsCurrent =
    (root : List Interval) (l : Ledger) → IsLedger root l → l.last.number ≡ 0
    → (r : ℕ) (c : Current) → ¬ IsCurrent l r c

-- nothing is held below a node that no rank works on
abbrev pub NoneIsBelow : Type 0
NoneIsBelow =
    (root : List Interval) (l : Ledger) → IsLedger root l → (a : Node) → Contains l.held a
    → ((r : ℕ) (c : Current) → IsCurrent l r c → c.node ≢ a)
    → (b : Node) → Contains l.held b → ¬ IsAncestor a.line b.line
