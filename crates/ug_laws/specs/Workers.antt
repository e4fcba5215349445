-- The law of coordinators at a crew of workers, and how a solve by such a crew ends.
use Rattle.std.specs.Prelude.{◌≡◌, ◌⊎◌, ℕ, []}
use Rattle.ug_rules.specs.State.{BookState}
use Rattle.ug_rules.specs.Books.{IsBook, IsSoundBook}
use Rattle.ug_coord.specs.Actions.{CoordinatorState}
use Rattle.ug_coord.specs.Coordinators.{Reaches, StaysSound, beginning}
use Rattle.ug_serve.specs.Worked.{AreAlwaysWorked}
use Rattle.ug_laws.specs.Laws.{LosesNothing}

-- the book has given no ticket, and no order waits
pub record IsUnused (b : BookState) : Type 0 where
  pub last : b.last ≡ 0
  pub orders : b.orders ≡ []

-- From a sound book that has given no ticket: if at each moment the bytes received from each rank
-- are what a worker sends that receives what was sent to the rank, then at each moment the book is
-- sound, so no better point is lost. Nothing is assumed of what the workers send.
abbrev pub CoordinatorsOfWorkersLoseNothing : Type 0
CoordinatorsOfWorkersLoseNothing = (b : BookState) (faults : ℕ) (now : CoordinatorState)
    (come : Reaches (beginning b faults) now) → IsBook b ⊎ (come.actions ≡ []) → IsSoundBook b → IsUnused b
    → AreAlwaysWorked now.said
    → StaysSound (beginning b faults) now come × LosesNothing now.book
