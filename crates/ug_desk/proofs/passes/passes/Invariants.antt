use Rattle.std.proofs.Common.{◌≡◌, ◌++◌, length}
use Rattle.std.specs.Vec.Iter.{into_iter_items}
use Rattle.ug_turn.specs.Locks.{id_of}
use Rattle.ug_desk.specs.Passes.{AreNewPasses}
use Rattle.ug_desk.proofs.passes.passes.Given as goal

abbrev pub invariant-loop-seat : goal.invariant-loop-seat
invariant-loop-seat l = record {
  split : l.yielded ++ into_iter_items l.seat-iterator ≡ into_iter_items l.initial.seat-iterator;
  count : length l.passes.items ≡ length l.yielded;
  rank : l.rank ≡ length l.yielded;
  each : AreNewPasses (id_of l.turn) l.began.value l.passes.items;
}
