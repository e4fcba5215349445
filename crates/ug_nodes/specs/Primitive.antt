-- Which of the nodes held are primitive, and how nodes are named.
use Rattle.std.specs.Prelude.{◌≤◌, ℕ, List, map, count_by, Contains}
use Rattle.std.specs.Borrow.{Bor}
use Rattle.ug_nodes.specs.declared.name.Name.{Name}
use Rattle.ug_nodes.specs.declared.node.Node.{Node}
use Rattle.ug_nodes.specs.Names.{IsNameBefore, own_name}
use Rattle.ug_nodes.specs.Lines.{IsAncestor, is_same_name}

-- the nodes that are lent
abbrev pub lent : List (Bor Node) → List Node
lent nodes = map (λ (node : Bor Node). node.now) nodes

-- the node is held, and no node that is held is a proper ancestor of it
pub record IsPrimitive (nodes : List Node) (n : Node) : Type 0 where
  pub held : Contains nodes n
  pub first : (a : Node) → Contains nodes a → IsAncestor a.line n.line → ⊥

-- the name of node a is before that of node b
abbrev pub IsNamedBefore : Node → Node → Type 0
IsNamedBefore a b = IsNameBefore (own_name a.line) (own_name b.line)

-- how many of the nodes have this name
abbrev pub times : Name → List Node → ℕ
times name nodes = count_by (λ (n : Node). is_same_name (own_name n.line) name) nodes

-- no two of the nodes have one name
abbrev pub AreNamedOnce : List Node → Type 0
AreNamedOnce nodes = (name : Name) → times name nodes ≤ 1
