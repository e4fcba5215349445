-- What contracts see of a coordinator at work.
use Rattle.ug_io.specs.Crews.{CrewSeen}
use Rattle.ug_coord.specs.declared.coordinator.Coordinator.{Coordinator}
use Rattle.ug_coord.specs.Coordinators.{CoordinatorSeen}

-- what its parts show
abbrev pub coordinator_seen : {R O C : Type 0} → (C → CrewSeen) → Coordinator R O C → CoordinatorSeen
coordinator_seen seen coordinator = record {
  crew = seen coordinator.crew;
  out_of_memory = coordinator.out_of_memory;
  pacing = coordinator.pacing;
  streams = coordinator.streams.items;
  book = coordinator.book;
}
