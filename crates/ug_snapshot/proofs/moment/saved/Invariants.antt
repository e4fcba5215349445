use Rattle.std.proofs.Common.{◌≡◌, map, take}
use Rattle.ug_nodes.specs.Primitive.{lent}
use Rattle.ug_snapshot.specs.Moments.{saved_of, HaveHands}
use Rattle.ug_snapshot.proofs.moment.saved.Given as goal

abbrev pub invariant-loop-node : goal.invariant-loop-node
invariant-loop-node l =
    (l.made ≡ map saved_of (take l.node-index (lent l.nodes))) × HaveHands l.made
