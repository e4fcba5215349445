use Rattle.ug_image.proofs.Nexts.{node_past, node_next}
use Rattle.ug_image.proofs.Narrow.{few_changes}
use Rattle.ug_image.proofs.advancing.at_node.Goals as goal

pub returns-then-j-nodes : goal.returns-then-j-nodes
returns-then-j-nodes c =
    node_past c.args.image.now c.args.j _ c.args.line.now c.as_slice-nodes.ensures
    c.if-j-nodes.true c.requires.fresh

pub returns : goal.returns
returns c =
    node_next c.args.image.now c.args.j _ c.index-nodes-j.result c.put_node_head.new.line
    c.as_slice-nodes.ensures c.if-j-nodes.false c.index-nodes-j.is c.put_node_head.ensures

pub put_node_head-requires-clause-changes : goal.put_node_head-requires-clause-changes
put_node_head-requires-clause-changes c =
    few_changes c.args.image.now c.args.j c.as_slice-nodes.result.now c.index-nodes-j.result
    c.requires.image c.as_slice-nodes.ensures c.if-j-nodes.false c.index-nodes-j.is
