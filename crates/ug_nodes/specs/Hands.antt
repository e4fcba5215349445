-- Boxes that were handed, in order.
use Rattle.std.specs.Prelude.{◌≡◌, ◌≢◌, ℕ, ◌<◌, ◌≤◌, Bool, true, false, List, [], ◌∷◌, length, take}
use Rattle.ug_rows.specs.declared.area.Interval.{Interval}
use Rattle.ug_rows.specs.Boxes.{box_at}
use Rattle.ug_nodes.specs.declared.delta.Delta.{Delta}
use Rattle.ug_nodes.specs.Deltas.{AreDeltas, last_behind}

-- the first behind a box without columns, and this is the last of them
pub record AreHands (deltas : List Delta) (last : List Interval) : Type 0 where
  pub chain : AreDeltas [] deltas
  pub ends : last ≡ last_behind [] deltas

-- the first this many boxes are the same, and the next, if there is one, is another
pub record Agree (handed taken : List (List Interval)) (count : ℕ) : Type 0 where
  pub below : count ≤ length taken
  pub same : take count handed ≡ take count taken
  pub next : count < length taken → box_at handed count ≢ box_at taken count

-- a walk: the box that it is at, and those ahead of it
pub record WalkState : Type 0 where
  pub area : List Interval
  pub ahead : List (List Interval)

-- it is at the box that was the first ahead
pub record HasGoneOn (old new : WalkState) : Type 0 where
  pub boxes : old.ahead ≡ new.area ∷ new.ahead

-- none was ahead, and it stands where it stood
pub record HasEnded (old new : WalkState) : Type 0 where
  pub none : old.ahead ≡ []
  pub same : new ≡ old

-- what a step with this answer did
abbrev pub DidStep : WalkState → WalkState → Bool → Type 0
DidStep old new true = HasGoneOn old new
DidStep old new false = HasEnded old new
