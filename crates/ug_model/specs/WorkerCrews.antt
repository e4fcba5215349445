-- The observation of a crew of workers, and the result of a visit of one of them.
use Rattle.std.specs.Prelude.{◌≡◌, ℕ, List, Some}
use Rattle.ug_io.specs.declared.crew.Exchange.{Exchange}
use Rattle.ug_io.specs.Crews.{CrewSeen, HasTurned}
use Rattle.ug_model.specs.declared.crew.Visited.{Visited}
use Rattle.ug_model.specs.declared.crew.Visited.TheVariants.{Came, Moved, Still}
use Rattle.ug_model.specs.declared.crew.WorkerCrew.{WorkerCrew}

-- what was received and sent, and who is lost
abbrev pub exchanged_of : WorkerCrew → List Exchange
exchanged_of c = c.sim_workers

-- the observation of it
abbrev pub crew_seen : WorkerCrew → CrewSeen
crew_seen c = record {
  said = Some (exchanged_of c);
  lives = c.lives.items;
  faults = c.faults;
}

-- something came, or nothing changed
abbrev pub HasVisited : CrewSeen → CrewSeen → List ℕ → Visited → Type 0
HasVisited old new buffer (Came came) = HasTurned old new buffer came
HasVisited old new buffer Moved = new ≡ old
HasVisited old new buffer Still = new ≡ old
