use Rattle.ug_coord.specs.Actions.{CoordinatorState}
use Rattle.ug_coord.specs.Coordinators.{HasKeptUp, IsKeptIn, IsRested}
use Rattle.ug_coord.specs.CoordinatorViews.{coordinator_seen}
use Rattle.ug_coord.specs.Keeping.{KeptSeen}
use Rattle.ug_coord.specs.Checkpointers.{kept_seen}
use Rattle.ug_coord.proofs.coordinator.Coordinator.go_on.Given as goal

abbrev pub invariant-loop : goal.invariant-loop
invariant-loop g l = record {
  next : (goal.iterator-loop g).can_next l.iterator' × (goal.iterator-loop g).is_finite l.iterator';
  on : (from : CoordinatorState) (first : KeptSeen) → IsKeptIn IsRested from (coordinator_seen g.C.Crew.seen l.initial.self) first
      (kept_seen l.initial.checkpointer (g.D.Disk.seen l.initial.disk))
      → IsKeptIn IsRested from (coordinator_seen g.C.Crew.seen l.self) first (kept_seen l.checkpointer (g.D.Disk.seen l.disk));
  kept : HasKeptUp (coordinator_seen g.C.Crew.seen l.initial.self) (coordinator_seen g.C.Crew.seen l.self)
      (kept_seen l.checkpointer (g.D.Disk.seen l.disk));
}
