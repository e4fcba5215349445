use Rattle.std.proofs.Common.{◌≡◌, ◌++◌}
use Rattle.std.specs.Vec.Iter.{into_iter_items}
use Rattle.ug_restart.specs.Starts.{boxes_saved}
use Rattle.ug_restart.proofs.books.boxes_of.Given as goal

abbrev pub invariant-loop-node : goal.invariant-loop-node
invariant-loop-node l =
    (l.yielded ++ into_iter_items l.node-iterator ≡ into_iter_items l.initial.node-iterator)
    × (l.boxes ≡ boxes_saved l.yielded)
