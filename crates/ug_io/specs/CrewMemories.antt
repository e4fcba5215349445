-- What a crew in memory shows.
use Rattle.std.specs.Prelude.{ℕ, ◌<◌, List, length, Some, IfSome, slice_get}
use Rattle.ug_io.specs.declared.crew.Exchange.{Exchange}
use Rattle.ug_io.specs.declared.crew_memory.MemoryCrew.{MemoryCrew}
use Rattle.ug_io.specs.Crews.{CrewSeen, IsAlive}
use Rattle.ug_io.specs.Scripted.{faults_of}

-- the events so far
abbrev pub exchanged_of : MemoryCrew → List Exchange
exchanged_of c = c.exchanged.items

-- the crew as it is seen
abbrev pub crew_seen : MemoryCrew → CrewSeen
crew_seen c = record {
  said = Some (exchanged_of c);
  lives = c.lives.items;
  faults = faults_of c.script;
}

-- the rank of the piece that comes, and how many bytes are left of it
abbrev pub next_rank : MemoryCrew → ℕ
next_rank c = c.piece.rank

abbrev pub left_in : MemoryCrew → ℕ
left_in c = length c.piece.bytes.now

-- a piece of a live rank is at this place
pub record IsNext (c : MemoryCrew) (at : ℕ) : Type 0 where
  pub there : at < length c.rest.now
  pub alive : IfSome (slice_get c.rest.now at) (λ piece. IsAlive (crew_seen c) piece.rank)
