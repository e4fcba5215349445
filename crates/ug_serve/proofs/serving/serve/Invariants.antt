use Rattle.ug_serve.specs.Servers.{IsServer}
use Rattle.ug_serve.proofs.serving.serve.Given as goal

abbrev pub invariant-loop : goal.invariant-loop
invariant-loop g l = record {
  next : (goal.iterator-loop g).can_next l.iterator' × (goal.iterator-loop g).is_finite l.iterator';
  server : IsServer g.L.Link.seen l.server;
}
