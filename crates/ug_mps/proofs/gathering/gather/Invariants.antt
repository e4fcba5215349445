use Rattle.std.proofs.Common.{◌≡◌, ◌+◌, ◌-◌, ◌<◌, ◌≤◌, length, vec_len}
use Rattle.ug_io.specs.Outside.{Gives}
use Rattle.ug_mps.specs.Ending.{IsLineAt}
use Rattle.ug_mps.proofs.gathering.gather.Given as goal

abbrev pub invariant-loop-cut : goal.invariant-loop-cut
invariant-loop-cut g l = record {
  came : Gives (g.S.Source.seen l.initial.input).left (g.S.Source.seen l.input).left l.bytes.items;
  line : IsLineAt l.bytes.items l.line l.from;
  few : length l.bytes.items ≤ l.from + 65536;
  room : 0 < vec_len l.buffer;
  small : vec_len l.buffer ≤ 65536;
  calm : (g.S.Source.seen l.input).faults ≡ (g.S.Source.seen l.initial.input).faults;
}

abbrev pub decreases-loop-cut : goal.decreases-loop-cut
decreases-loop-cut g l = 268435464 - vec_len l.bytes
