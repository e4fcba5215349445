use Rattle.std.proofs.Common.{◌≡◌}
use Rattle.ug_coord.specs.Actions.{CoordinatorState}
use Rattle.ug_coord.specs.Coordinators.{AnyPhase, IsClosedBelow, IsKeptIn}
use Rattle.ug_coord.specs.CoordinatorViews.{coordinator_seen}
use Rattle.ug_coord.specs.Keeping.{KeptSeen}
use Rattle.ug_coord.proofs.coordinator.Coordinator.close.Given as goal

abbrev pub invariant-loop-rank : goal.invariant-loop-rank
invariant-loop-rank g l = record {
  closed : (from : CoordinatorState) (old new : KeptSeen)
      → IsKeptIn AnyPhase from (coordinator_seen g.C.Crew.seen l.initial.self) old new
      → IsClosedBelow l.rank from (coordinator_seen g.C.Crew.seen l.self) old new;
  book : l.self.book ≡ l.initial.self.book;
  out_of_memory : l.self.out_of_memory ≡ l.initial.self.out_of_memory;
  pacing : l.self.pacing ≡ l.initial.self.pacing;
}
