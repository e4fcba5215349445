use Rattle.std.proofs.Common.{◌<◌, ℕ}
use Rattle.ug_coord.specs.Actions.{CoordinatorState}
use Rattle.ug_coord.specs.Coordinators.{IsBrokenOff, IsOnIn, IsQuiet}
use Rattle.ug_coord.specs.CoordinatorViews.{coordinator_seen}
use Rattle.ug_coord.proofs.Deaths.{IsDead}
use Rattle.ug_coord.proofs.coordinator.Coordinator.lose_all.Given as goal

abbrev pub invariant-loop-rank : goal.invariant-loop-rank
invariant-loop-rank g l = record {
  on : (from : CoordinatorState) → IsOnIn IsBrokenOff from (coordinator_seen g.C.Crew.seen l.initial.self)
      → IsOnIn IsBrokenOff from (coordinator_seen g.C.Crew.seen l.self);
  all : (rank : ℕ) → rank < l.rank → IsDead l.self.book.ranks rank;
  quiet : IsQuiet (coordinator_seen g.C.Crew.seen l.initial.self) (coordinator_seen g.C.Crew.seen l.self);
}
