use Rattle.std.proofs.Common.{◌≡◌, ◌++◌, take}
use Rattle.ug_nodes.specs.Primitive.{lent}
use Rattle.ug_rules.specs.State.{nodes_in}
use Rattle.ug_book.proofs.held.push_pool.Given as goal

abbrev pub invariant-loop-at : goal.invariant-loop-at
invariant-loop-at l =
    lent l.nodes.items ≡ lent l.initial.nodes.items ++ nodes_in (take l.at l.pool.entries)
