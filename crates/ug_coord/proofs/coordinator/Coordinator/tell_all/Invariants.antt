use Rattle.ug_coord.specs.Actions.{CoordinatorState}
use Rattle.ug_coord.specs.Coordinators.{IsOnAs, IsQuiet, Phase}
use Rattle.ug_coord.specs.CoordinatorViews.{coordinator_seen}
use Rattle.ug_coord.proofs.coordinator.Coordinator.tell_all.Given as goal

abbrev pub invariant-loop : goal.invariant-loop
invariant-loop g l = record {
  next : (goal.iterator-loop g).can_next l.iterator' × (goal.iterator-loop g).is_finite l.iterator';
  on : (phase : Phase) (from : CoordinatorState) → IsOnAs phase from (coordinator_seen g.C.Crew.seen l.initial.self)
      → IsOnAs phase from (coordinator_seen g.C.Crew.seen l.self);
  quiet : IsQuiet (coordinator_seen g.C.Crew.seen l.initial.self) (coordinator_seen g.C.Crew.seen l.self);
}
