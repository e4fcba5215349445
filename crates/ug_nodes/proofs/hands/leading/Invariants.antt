use Rattle.std.proofs.Common.{◌≡◌, take}
use Rattle.ug_nodes.proofs.hands.leading.Given as goal

abbrev pub invariant-loop-k : goal.invariant-loop-k
invariant-loop-k l = take l.k l.deltas ≡ take l.k l.others
