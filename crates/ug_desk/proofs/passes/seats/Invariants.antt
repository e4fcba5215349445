use Rattle.std.proofs.Common.{◌≡◌, ◌≤◌, ◌+◌, ◌++◌, length, vec_len, vec_capacity}
use Rattle.std.specs.Vec.Iter.{into_iter_items}
use Rattle.ug_desk.specs.Passes.{AreSeatsOf}
use Rattle.ug_desk.proofs.passes.seats.Given as goal

abbrev pub invariant-loop-pass : goal.invariant-loop-pass
invariant-loop-pass l = record {
  split : l.yielded ++ into_iter_items l.pass-iterator ≡ into_iter_items l.initial.pass-iterator;
  room : vec_len l.seats + length (into_iter_items l.pass-iterator) ≤ vec_capacity l.seats;
  each : AreSeatsOf l.yielded l.seats.items;
}
