use Rattle.std.proofs.Common.{◌≡◌}
use Rattle.ug_worker.specs.Workers.{IsAtWork}
use Rattle.ug_worker.proofs.worker.work.Given as goal

abbrev pub invariant-loop : goal.invariant-loop
invariant-loop g l = record {
  next : (goal.iterator-loop g).can_next l.iterator' × (goal.iterator-loop g).is_finite l.iterator';
  at : IsAtWork (g.S.Seat.at l.seat) l.worker.round_count l.worker.search;
  home : g.S.Seat.home l.seat ≡ g.S.Seat.home l.initial.seat;
}
