use Rattle.std.proofs.Common.{◌∙◌, subst, sym, ap, arith}
use Rattle.std.specs.Borrow.{Bor}
use Rattle.std.proofs.lemmas.List.{length-map}
use Rattle.ug_nodes.specs.declared.node.Node.{Node}
use Rattle.ug_nodes.specs.Primitive.{lent}
use Rattle.ug_snapshot.specs.Moments.{HaveHands, saved_of}
use Rattle.ug_snapshot.proofs.Helds.{some_node}
use Rattle.ug_snapshot.proofs.Saves.{saved_more, hands_more, lent_at}
use Rattle.ug_snapshot.proofs.moment.saved.Goals as goal

pub loop-node-preserved : goal.loop-node-preserved
loop-node-preserved c = (
  c.in_ok-push.ensures.ok
      ∙ saved_more (lent c.args.nodes.now) c.loop-node.node-index some_node c.loop-node.made
      c.in_ok-saved_node.field-0
      (omega (
        arith,
        c.loop-node-test.true,
        length-map c.args.nodes.now (λ (node : Bor Node). node.now),
      ))
      c.loop-node.invariant.0
      (c.in_ok-saved_node.ensures.value ∙ ap saved_of (lent_at c.args.nodes.now
      c.loop-node.node-index some_node c.node-item.result c.loop-node-test.true c.node-item.is)),
  subst HaveHands (sym c.in_ok-push.ensures.ok) (hands_more c.loop-node.made
      c.in_ok-saved_node.field-0 c.loop-node.invariant.1 c.in_ok-saved_node.ensures.hand),
)
