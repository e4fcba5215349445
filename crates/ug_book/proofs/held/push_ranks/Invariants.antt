use Rattle.std.proofs.Common.{◌≡◌, ◌++◌, take}
use Rattle.ug_nodes.specs.Primitive.{lent}
use Rattle.ug_rules.specs.State.{nodes_of}
use Rattle.ug_book.proofs.held.push_ranks.Given as goal

abbrev pub invariant-loop-state : goal.invariant-loop-state
invariant-loop-state l =
    lent l.nodes.items ≡ lent l.initial.nodes.items ++ nodes_of (take l.state-index l.state-items)
