-- How a ledger begins.
use Rattle.std.specs.Prelude.{◌≡◌, ℕ, ◌≤◌, [], ◌∷◌, Contains}
use Rattle.ug_nodes.specs.declared.name.Name.{Name}
use Rattle.ug_nodes.specs.declared.node.Node.{Node}
use Rattle.ug_ledger.specs.Ledgers.{Current, IsCurrent, Ledger, hand_name}
use Rattle.ug_nodes.specs.Primitive.{times}

-- starting nodes: no ticket was given yet, and the line of each is one name, that of no other
pub record IsStart (l : Ledger) : Type 0 where
  pub unused : l.last.number ≡ 0
  pub none : (r : ℕ) (c : Current) → ¬ IsCurrent l r c
  pub lines : (n : Node) → Contains l.held n → (i : ℕ) × (n.line ≡ hand_name l.last i ∷ [])
  pub once : (name : Name) → times name l.held ≤ 1
