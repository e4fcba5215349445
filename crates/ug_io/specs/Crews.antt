-- The contract of a crew: each byte received from a rank or sent to one, and each lost rank, in one
-- order, if the crew shows them; and which ranks are alive.
use Rattle.std.specs.Prelude.{◌≡◌, ℕ, ◌<◌, ◌≤◌, Bool, true, false, List, [], ◌∷◌, ◌++◌, length, map, take}
use Rattle.std.specs.Prelude.{Option, slice_index_or, slice_set}
use Rattle.std.specs.Option.{option_map}
use Rattle.ug_io.specs.declared.crew.Exchange.{Exchange}
use Rattle.ug_io.specs.declared.crew.Exchange.TheVariants as exchange
use Rattle.ug_io.specs.declared.crew.Came.{Came}
use Rattle.ug_io.specs.declared.crew.Came.TheVariants.{Bytes, Gone}
use Rattle.ug_io.specs.Outside.{Rose}

-- a crew as it is seen: the events in order, if it shows them; for each rank whether it is alive:
-- it was launched, and is neither lost nor shut; and the number of failed calls
pub record CrewSeen : Type 0 where
  pub said : Option (List Exchange)
  pub lives : List Bool
  pub faults : ℕ

-- these bytes were received from the rank
abbrev pub heard_from : ℕ → List ℕ → List Exchange
heard_from rank bytes = map (exchange.Heard rank) bytes

-- these bytes were sent to it
abbrev pub told_to : ℕ → List ℕ → List Exchange
told_to rank bytes = map (exchange.Told rank) bytes

-- this was said next
abbrev pub Adds : Option (List Exchange) → Option (List Exchange) → List Exchange → Type 0
Adds old new more = new ≡ option_map (λ said. said ++ more) old

-- the rank lives
pub record IsAlive (seen : CrewSeen) (rank : ℕ) : Type 0 where
  pub there : rank < length seen.lives
  pub lives : slice_index_or seen.lives rank false ≡ true

-- the rank is there, and does not live
pub record IsAway (seen : CrewSeen) (rank : ℕ) : Type 0 where
  pub there : rank < length seen.lives
  pub away : slice_index_or seen.lives rank false ≡ false

-- nothing was said, and who lives is the same
pub record IsSilent (old new : CrewSeen) : Type 0 where
  pub said : new.said ≡ old.said
  pub lives : new.lives ≡ old.lives

-- the rank lives from now on, or does no longer; nothing was said
pub record IsSetTo (alive : Bool) (old new : CrewSeen) (rank : ℕ) : Type 0 where
  pub said : new.said ≡ old.said
  pub lives : new.lives ≡ slice_set old.lives rank alive

-- `count` bytes came from a live rank, which are a prefix of the buffer
pub record HasHeard (old new : CrewSeen) (buffer : List ℕ) (rank count : ℕ) : Type 0 where
  pub alive : IsAlive old rank
  pub some : 0 < count
  pub within : count ≤ length buffer
  pub said : Adds old.said new.said (heard_from rank (take count buffer))
  pub lives : new.lives ≡ old.lives
  pub faults : new.faults ≡ old.faults

-- a live rank is lost, which counts as a fault
pub record HasLost (old new : CrewSeen) (rank : ℕ) : Type 0 where
  pub alive : IsAlive old rank
  pub said : Adds old.said new.said (exchange.Gone rank ∷ [])
  pub lives : new.lives ≡ slice_set old.lives rank false
  pub faults : Rose old.faults new.faults

-- the result of a turn
abbrev pub HasTurned : CrewSeen → CrewSeen → List ℕ → Came → Type 0
HasTurned old new buffer (Bytes rank count) = HasHeard old new buffer rank count
HasTurned old new buffer (Gone rank) = HasLost old new rank

-- all the bytes were sent to the rank
pub record HasSent (old new : CrewSeen) (rank : ℕ) (bytes : List ℕ) : Type 0 where
  pub said : Adds old.said new.said (told_to rank bytes)
  pub lives : new.lives ≡ old.lives
