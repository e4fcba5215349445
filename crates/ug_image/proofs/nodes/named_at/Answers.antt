use Rattle.std.proofs.Common.{Some}
use Rattle.std.proofs.lemmas.Result.{err_from_is_err_and}
use Rattle.ug_image.specs.declared.image.SavedNode.{SavedNode}
use Rattle.ug_fields.proofs.Loops.{goes_on, ends, is_done}
use Rattle.ug_image.specs.Reading.{node_at, named_at}
use Rattle.ug_image.proofs.nodes.named_at.Goals as goal

pub returns-in_err-node : goal.returns-in_err-node
returns-in_err-node c =
    let p = err_from_is_err_and c.from_residual.result c.from_residual.ensures.1 in
    rw (p.1, p.2)
    (ends (node_at c.args.run c.args.root.now) (λ last (node : SavedNode). Some node.name)
    c.in_err-node.field-0.0 c.loop.nodes c.args.count c.loop.counter c.loop.last
    c.loop.rest.now
    (named_at c.args.run c.args.root.now c.args.count c.args.bytes.now) c.loop-test.true
    c.in_err-node.ensures c.loop.invariant)

pub loop-preserved : goal.loop-preserved
loop-preserved c =
    rw c.in_ok-push.ensures.ok
    (goes_on (node_at c.args.run c.args.root.now) (λ last (node : SavedNode). Some node.name)
    c.loop.nodes c.args.count c.loop.counter c.loop.last c.loop.rest.now c.in_ok-node.node
    c.in_ok-node.after.now
    (named_at c.args.run c.args.root.now c.args.count c.args.bytes.now) c.loop-test.true
    c.in_ok-node.ensures c.loop.invariant)

pub returns : goal.returns
returns c =
    is_done (node_at c.args.run c.args.root.now) (λ last (node : SavedNode). Some node.name)
    c.loop.nodes c.args.count c.loop.counter c.loop.last c.loop.rest.now
    (named_at c.args.run c.args.root.now c.args.count c.args.bytes.now) c.loop-test.false
    c.loop.invariant
