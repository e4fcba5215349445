use Rattle.std.proofs.Common.{◌≡◌, ℕ, ◌<◌, ◌≤◌, ◌+◌, length, vec_capacity}
use Rattle.std.specs.Vec.Iter.{into_iter_items}
use Rattle.ug_desk.specs.Passes.{width_of}
use Rattle.ug_threads.proofs.Crews.{IsAmong}
use Rattle.ug_threads.specs.Crews.{ArePassesAt, ArePromised}
use Rattle.ug_threads.proofs.crew.Crew.join.Given as goal

abbrev pub invariant-loop-handle : goal.invariant-loop-handle
invariant-loop-handle g l = record {
  promised : ArePromised l.table (into_iter_items l.handle-iterator);
  at : ArePassesAt l.table l.back.items;
  each : (r : ℕ) → r < width_of l.table.desk.now → IsAmong (into_iter_items l.handle-iterator) l.back.items r;
  room : length l.back.items + length (into_iter_items l.handle-iterator) ≤ vec_capacity l.back;
  count : length l.back.items + length (into_iter_items l.handle-iterator)
      ≡ length l.initial.back.items + length (into_iter_items l.initial.handle-iterator);
}
