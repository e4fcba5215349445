-- That nodes have names of their own.
use Rattle.std.specs.Prelude.{◌<◌, ◌≤◌, List, length, Contains}
use Rattle.ug_nodes.specs.declared.name.Name.{Name}
use Rattle.ug_nodes.specs.declared.node.Node.{Node}
use Rattle.ug_nodes.specs.Primitive.{times}

-- each node has a name, and no two have the same
pub record AreNamed (nodes : List Node) : Type 0 where
  pub some : (n : Node) → Contains nodes n → 0 < length n.line
  pub once : (name : Name) → times name nodes ≤ 1
