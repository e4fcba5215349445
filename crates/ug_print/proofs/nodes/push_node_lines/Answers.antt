use Rattle.ug_print.proofs.NodeLines.{node_within}
use Rattle.ug_print.proofs.nodes.push_node_lines.Goals as goal

pub push_node_line-requires : goal.push_node_line-requires
push_node_line-requires c =
    node_within c.args.columns.now c.args.nodes.now c.loop-i.i c.index-nodes-i.result c.requires
    c.loop-i-test.true c.index-nodes-i.is
