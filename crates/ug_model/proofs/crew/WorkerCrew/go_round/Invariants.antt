use Rattle.std.proofs.Common.{◌≡◌}
use Rattle.ug_model.specs.WorkerCrews.{crew_seen}
use Rattle.ug_model.proofs.crew.WorkerCrew.go_round.Given as goal

abbrev pub invariant-loop : goal.invariant-loop
invariant-loop l = record {
  same : crew_seen l.self ≡ crew_seen l.initial.self;
}
