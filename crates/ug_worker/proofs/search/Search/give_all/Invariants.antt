use Rattle.std.proofs.Common.{◌≡◌, ◌+◌, ◌≤◌, length}
use Rattle.ug_worker.specs.Workers.{IsGiving}
use Rattle.ug_worker.proofs.search.Search.give_all.Given as goal

abbrev pub invariant-loop : goal.invariant-loop
invariant-loop g l = record {
  giving : IsGiving (g.S.Seat.at l.seat l.self.round_count) l.self.round_count l.self.task;
  rest : l.counter + length l.self.task.boxes ≡ l.end;
  within : l.counter ≤ l.end;
  home : g.S.Seat.home l.seat ≡ g.S.Seat.home l.initial.seat;
}
