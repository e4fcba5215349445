use Rattle.std.proofs.Common.{◌≡◌, length}
use Rattle.ug_mps.specs.Enough.{legible_left}
use Rattle.ug_mps.proofs.Gathered.{Passed}
use Rattle.ug_mps.proofs.gathering.pass.Given as goal

abbrev pub invariant-loop : goal.invariant-loop
invariant-loop g l = record {
  left : legible_left (g.S.Source.seen l.initial.input).left l.initial.tail ≡ legible_left (g.S.Source.seen l.input).left l.tail;
  room : length l.buffer ≡ length l.initial.buffer;
  calm : (g.S.Source.seen l.input).faults ≡ (g.S.Source.seen l.initial.input).faults;
  passed : Passed l.initial.tail l.tail l.counter (g.S.Source.seen l.initial.input).left (g.S.Source.seen l.input).left;
}
