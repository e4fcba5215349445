use Rattle.std.proofs.Common.{◌≡◌, length}
use Rattle.ug_serve.proofs.Tellings.{Went}
use Rattle.ug_serve.proofs.telling.tell_all.Given as goal

abbrev pub invariant-loop-rest : goal.invariant-loop-rest
invariant-loop-rest g l = record {
  went : Went (g.L.Link.seen l.initial.link) (g.L.Link.seen l.link) l.bytes l.rest;
  calm : (g.L.Link.seen l.link).faults ≡ (g.L.Link.seen l.initial.link).faults;
}

abbrev pub decreases-loop-rest : goal.decreases-loop-rest
decreases-loop-rest g l = length l.rest
