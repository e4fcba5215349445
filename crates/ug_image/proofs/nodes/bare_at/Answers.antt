use Rattle.std.proofs.Common.{◌+◌, ◌≡◌, Ok, subst, arith}
use Rattle.std.proofs.lemmas.Result.{err_from_is_err_and}
use Rattle.ug_image.specs.declared.image.SavedNode.{SavedNode}
use Rattle.ug_fields.proofs.Loops.{goes_on, ends, is_done}
use Rattle.ug_image.specs.Reading.{starting_at, bare_at}
use Rattle.ug_image.proofs.nodes.bare_at.Goals as goal

pub returns-in_err-node : goal.returns-in_err-node
returns-in_err-node c =
    let p = err_from_is_err_and c.from_residual.result c.from_residual.ensures.1 in
    rw (p.1, p.2)
    (ends (starting_at c.args.run c.args.root.now) (λ k (node : SavedNode). k + 1)
    c.in_err-node.field-0.0 c.loop-k.nodes c.args.count c.loop-k.k c.loop-k.k
    c.loop-k.rest.now
    (bare_at c.args.run c.args.root.now c.args.count c.args.bytes.now) c.loop-k-test.true
    c.in_err-node.ensures c.loop-k.invariant)

pub loop-k-preserved : goal.loop-k-preserved
loop-k-preserved c =
    rw c.in_ok-push.ensures.ok
    (goes_on (starting_at c.args.run c.args.root.now) (λ k (node : SavedNode). k + 1)
    c.loop-k.nodes c.args.count c.loop-k.k c.loop-k.k c.loop-k.rest.now c.in_ok-node.node
    c.in_ok-node.after.now
    (bare_at c.args.run c.args.root.now c.args.count c.args.bytes.now) c.loop-k-test.true
    c.in_ok-node.ensures c.loop-k.invariant)

pub returns : goal.returns
returns c =
    let all : c.loop-k.k ≡ c.args.count =
    omega (arith, c.loop-k-test.false, c.loop-k.auto.k-end) in
    subst (λ n. bare_at c.args.run c.args.root.now c.args.count c.args.bytes.now
    ≡ Ok ((c.loop-k.nodes, n), c.loop-k.rest.now)) all
    (is_done (starting_at c.args.run c.args.root.now) (λ k (node : SavedNode). k + 1)
    c.loop-k.nodes c.args.count c.loop-k.k c.loop-k.k c.loop-k.rest.now
    (bare_at c.args.run c.args.root.now c.args.count c.args.bytes.now) c.loop-k-test.false
    c.loop-k.invariant)
