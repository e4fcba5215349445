use Rattle.std.proofs.Common.{◌≡◌, ◌+◌, ◌≤◌, ◌<◌, length}
use Rattle.ug_worker.specs.Workers.{StandsAt}
use Rattle.ug_worker.proofs.search.Search.hands.Given as goal

abbrev pub invariant-loop : goal.invariant-loop
invariant-loop g l = record {
  stands : StandsAt (g.S.Seat.at l.seat l.self.round_count) l.self.task 64 l.self.asked;
  rest : l.counter + l.self.asked.count ≡ l.end;
  within : l.counter ≤ l.end;
  some : 0 < length l.self.task.boxes;
  home : g.S.Seat.home l.seat ≡ g.S.Seat.home l.initial.seat;
}
