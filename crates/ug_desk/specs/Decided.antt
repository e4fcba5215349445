-- A decision at the desk: its orders are dropped, since the book has all that they say.
use Rattle.std.specs.Prelude.{◌≡◌, ℕ, []}
use Rattle.ug_rules.specs.State.{BookState}
use Rattle.ug_rules.specs.Deciding.{IsDecided, Stands}

-- the book after its orders were taken and dropped
abbrev pub without_orders : BookState → BookState
without_orders b = record b { orders = [] }

-- it was decided
pub record HasDecided (old new : BookState) : Type 0 where
  pub decided : BookState
  pub made : IsDecided old decided
  pub dropped : new ≡ without_orders decided

-- memory ran out in the decision, and the first steps of it stand
pub record HasStood (steps : ℕ) (old new : BookState) : Type 0 where
  pub decided : BookState
  pub stands : Stands steps old decided
  pub dropped : new ≡ without_orders decided
