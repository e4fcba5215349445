use Rattle.std.proofs.Common.{◌≡◌}
use Rattle.ug_worker.specs.Workers.{StandsAt}
use Rattle.ug_worker.proofs.search.Search.steps.Given as goal

abbrev pub invariant-loop-made : goal.invariant-loop-made
invariant-loop-made g l = record {
  stands : StandsAt (g.S.Seat.at l.seat l.self.round_count) l.self.task l.made l.self.asked;
  home : g.S.Seat.home l.seat ≡ g.S.Seat.home l.initial.seat;
}
