-- The box of a node.
use Rattle.std.specs.Prelude.{List}
use Rattle.ug_rows.specs.declared.area.Interval.{Interval}
use Rattle.ug_nodes.specs.declared.node.Node.{Node}
use Rattle.ug_nodes.specs.Changes.{area_by}

-- the box that the node's changes make of the root's
abbrev pub box_of : List Interval → Node → List Interval
box_of root node = area_by root node.changes
