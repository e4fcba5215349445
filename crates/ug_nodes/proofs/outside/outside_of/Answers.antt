use Rattle.std.proofs.Common.{◌≡◌, length, subst, arith}
use Rattle.ug_nodes.specs.Steps.{ArePassed}
use Rattle.ug_nodes.proofs.Passes.{ended}
use Rattle.ug_nodes.proofs.outside.outside_of.Goals as goal

pub returns : goal.returns
returns c =
    let all : c.loop-i.i ≡ length c.args.changes.now = omega arith in
    ended c.args.root.now c.args.told.now c.args.changes.now c.loop-i.at c.left.result c.requires.told c.requires.valid
    (subst (λ i. ArePassed c.args.root.now c.args.told.now c.args.changes.now i c.loop-i.at) all c.loop-i.invariant) c.left.ensures
