use Rattle.std.proofs.Common.{◌∙◌, ap, sym}
use Rattle.std.proofs.lemmas.List.{get_or_default}
use Rattle.ug_image.specs.declared.image.SavedNode.{SavedNode}
use Rattle.ug_image.proofs.Nexts.{change_past_nodes, change_past, change_next}
use Rattle.ug_image.proofs.advancing.at_change.Goals as goal

pub returns-then-j-nodes : goal.returns-then-j-nodes
returns-then-j-nodes c =
    change_past_nodes c.args.image.now c.args.j c.args.k _ c.args.line.now c.as_slice-nodes.ensures
    c.if-j-nodes.true c.requires.fresh

pub returns-then-k-changes : goal.returns-then-k-changes
returns-then-k-changes c =
    change_past c.args.image.now c.args.j c.args.k _ c.index-nodes-j.result _ c.at_node.new.line _
    c.as_slice-nodes.ensures c.if-j-nodes.false c.index-nodes-j.is
    (c.as_slice-changes.ensures.value ∙ ap (λ (n : SavedNode). n.changes)
    (get_or_default c.as_slice-nodes.result.now c.args.j _ c.index-nodes-j.result
    c.if-j-nodes.false ∙ sym c.index-nodes-j.is)) c.if-k-changes.true c.at_node.ensures

pub returns : goal.returns
returns c =
    change_next c.args.image.now c.args.j c.args.k _ c.index-nodes-j.result _ _
    c.put_change.new.line
    c.as_slice-nodes.ensures c.if-j-nodes.false c.index-nodes-j.is
    (c.as_slice-changes.ensures.value ∙ ap (λ (n : SavedNode). n.changes)
    (get_or_default c.as_slice-nodes.result.now c.args.j _ c.index-nodes-j.result
    c.if-j-nodes.false ∙ sym c.index-nodes-j.is)) c.if-k-changes.false c.put_change.ensures
