use Rattle.ug_coord.specs.Actions.{CoordinatorState}
use Rattle.ug_coord.specs.Coordinators.{IsQuiet, IsSetUpFrame, IsStartedAs, Phase}
use Rattle.ug_coord.specs.CoordinatorViews.{coordinator_seen}
use Rattle.ug_coord.proofs.coordinator.Coordinator.start_all.Given as goal

abbrev pub invariant-loop-rank : goal.invariant-loop-rank
invariant-loop-rank g l = record {
  on : (phase : Phase) (from : CoordinatorState) → IsStartedAs 0 phase from (coordinator_seen g.C.Crew.seen l.initial.self)
      → IsStartedAs l.rank phase from (coordinator_seen g.C.Crew.seen l.self);
  frame : IsSetUpFrame l.self.book l.self.frame.items;
  quiet : IsQuiet (coordinator_seen g.C.Crew.seen l.initial.self) (coordinator_seen g.C.Crew.seen l.self);
}
