-- What events do to a ledger: each says what changed, and what stayed.
use Rattle.std.specs.Prelude.{◌≡◌, ◌≢◌, ℕ, ℤ, ◌+◌, ◌<◌, ◌≤◌, ◌⊎◌, List, [], ◌∷◌, ◌++◌, length}
use Rattle.std.specs.Prelude.{set, All, Contains, Option, Some, None, slice_index_or}
use Rattle.ug_rows.specs.declared.area.Interval.{Interval}
use Rattle.ug_rows.specs.Boxes.{IsBelow, IsInside}
use Rattle.ug_problem.specs.Instances.{Instance, root_of}
use Rattle.ug_problem.specs.Incumbents.{Incumbent}
use Rattle.ug_problem.specs.Better.{Better}
use Rattle.ug_problem.specs.Feasible.{Feasible}
use Rattle.ug_nodes.specs.declared.change.Change.{Change}
use Rattle.ug_nodes.specs.declared.name.Name.{Name}
use Rattle.ug_nodes.specs.declared.node.Node.{Node}
use Rattle.ug_nodes.specs.Lines.{IsAncestor}
use Rattle.ug_nodes.specs.Nodes.{box_of}
use Rattle.ug_ledger.specs.Ledgers.{Current, IsCurrent, Ledger, hand_name}
use Rattle.ug_nodes.specs.Primitive.{times}

-- the first ledger holds each node that the second holds
abbrev pub HoldsAllOf : Ledger → Ledger → Type 0
HoldsAllOf a b = (n : Node) → Contains b.held n → Contains a.held n

-- nothing is held or current that was not before, and the nodes of current tickets are held
pub record IsLess (old new : Ledger) : Type 0 where
  pub held : HoldsAllOf old new
  pub counts : (name : Name) → times name new.held ≤ times name old.held
  pub current : (r : ℕ) (c : Current) → IsCurrent new r c → IsCurrent old r c
  pub still : (r : ℕ) (c : Current) → IsCurrent new r c → Contains new.held c.node
  pub last : new.last ≡ old.last

-- a ticket whose node is held, above another held node, did not end
abbrev pub KeepsWork : Ledger → Ledger → Type 0
KeepsWork old new =
    (r : ℕ) (c : Current) → IsCurrent old r c → Contains new.held c.node
    → (n : Node) → Contains new.held n → IsAncestor c.node.line n.line → IsCurrent new r c

-- tickets ended, and each node is held as before: a racer was lost, or the race ended
pub record HasEnded (old new : Ledger) : Type 0 where
  pub less : IsLess old new
  pub kept : HoldsAllOf new old
  pub work : KeepsWork old new

-- no point of the node is better
abbrev pub HasNoBetter : Instance → ℤ → Incumbent → Node → Type 0
HasNoBetter p gap best n =
    (x : List ℤ) → Better p gap best x → ¬ IsInside (box_of (root_of p) n) x

-- nodes without a better point were dropped, and no ticket ended
pub record HasDropped (p : Instance) (gap : ℤ) (best : Incumbent) (old new : Ledger)
    : Type 0 where
  pub less : IsLess old new
  pub dropped : (n : Node) → Contains old.held n → HasNoBetter p gap best n ⊎ Contains new.held n
  pub ranks : new.ranks ≡ old.ranks

-- the node for which rank r has a ticket was worked off: it went, the tickets for it ended, and all
-- else stayed
pub record HasDone (old new : Ledger) (r : ℕ) (c : Current) : Type 0 where
  pub less : IsLess old new
  pub current : IsCurrent old r c
  pub gone : ¬ Contains new.held c.node
  pub others : (n : Node) → Contains old.held n → (n ≡ c.node) ⊎ Contains new.held n
  pub tickets : (q : ℕ) (d : Current) → IsCurrent old q d
      → (d.node ≡ c.node) ⊎ IsCurrent new q d

-- rank r was lost, and its node took in what was held below: these nodes left, the tickets for them
-- and for the node ended, and everything else stayed
pub record HasTakenIn (old new : Ledger) (r : ℕ) (c : Current) : Type 0 where
  pub less : IsLess old new
  pub current : IsCurrent old r c
  pub gone : (n : Node) → Contains new.held n → ¬ IsAncestor c.node.line n.line
  pub others : (n : Node) → Contains old.held n
      → IsAncestor c.node.line n.line ⊎ Contains new.held n
  pub ended : (q : ℕ) (d : Current) → IsCurrent new q d → d.node ≢ c.node
  pub tickets : (q : ℕ) (d : Current) → IsCurrent old q d
      → (d.node ≡ c.node) ⊎ (IsAncestor c.node.line d.node.line ⊎ IsCurrent new q d)

-- rank r, which had no ticket, was given a held node with a new one, of the same run and with a
-- greater number
pub record HasGiven (old new : Ledger) (r : ℕ) (c : Current) : Type 0 where
  pub there : r < length old.ranks
  pub free : slice_index_or old.ranks r None ≡ None
  pub held : HoldsAllOf old new
  pub kept : HoldsAllOf new old
  pub counts : (name : Name) → times name new.held ≤ times name old.held
  pub node : Contains old.held c.node
  pub fresh : c.taken ≡ []
  pub run : c.ticket.run ≡ old.last.run
  pub number : old.last.number < c.ticket.number
  pub ranks : new.ranks ≡ set old.ranks r (Some c)
  pub last : new.last ≡ c.ticket

-- the name of the next hand under a current ticket
abbrev pub next_hand : Current → Name
next_hand c = hand_name c.ticket (length c.taken)

-- the node that the next hand makes
abbrev pub handed_node : Current → List Change → Node
handed_node c changes = record { line = c.node.line ++ next_hand c ∷ []; changes = changes }

-- the current ticket with this box taken
abbrev pub with_taken : Current → List Interval → Current
with_taken c area = record c { taken = c.taken ++ area ∷ [] }

-- rank r handed a box below that of its ticket's node: the box is taken, and its node held
pub record HasHanded (root : List Interval) (old new : Ledger) (r : ℕ) (c : Current)
    (changes : List Change) : Type 0 where
  pub there : r < length old.ranks
  pub current : IsCurrent old r c
  pub below : IsBelow (box_of root (handed_node c changes)) (box_of root c.node)
  pub held : (n : Node) → Contains new.held n → Contains old.held n ⊎ (n ≡ handed_node c changes)
  pub kept : HoldsAllOf new old
  pub node : Contains new.held (handed_node c changes)
  pub counts : (name : Name)
      → times name new.held ≤ times name old.held + times name (handed_node c changes ∷ [])
  pub ranks : new.ranks
      ≡ set old.ranks r (Some (with_taken c (box_of root (handed_node c changes))))
  pub last : new.last ≡ old.last

-- other points are kept, feasible ones, and none is better than they are that was not before
pub record HasImproved (p : Instance) (gap : ℤ) (old new : Incumbent) : Type 0 where
  pub feasible : All (Feasible p) new.points
  pub falls : (x : List ℤ) → Better p gap new x → Better p gap old x
