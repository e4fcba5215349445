use Rattle.std.proofs.Common.{◌≡◌, length}
use Rattle.ug_top.proofs.Moved.{Went}
use Rattle.ug_top.proofs.write.write_all.Given as goal

abbrev pub invariant-loop-rest : goal.invariant-loop-rest
invariant-loop-rest g l = record {
  went : Went (g.K.Sink.seen l.initial.out).written (g.K.Sink.seen l.out).written l.bytes l.rest;
  calm : (g.K.Sink.seen l.out).faults ≡ (g.K.Sink.seen l.initial.out).faults;
}

abbrev pub decreases-loop-rest : goal.decreases-loop-rest
decreases-loop-rest g l = length l.rest
