-- The law of a calm crew of workers: if no call failed and memory sufficed, no rank is lost.
use Rattle.std.specs.Prelude.{◌≡◌, ℕ, false}
use Rattle.ug_io.specs.Outside.{IsCalm}
use Rattle.ug_ranks.specs.Looks.{is_joined}
use Rattle.ug_ranks.specs.States.{state_at}
use Rattle.ug_rules.specs.State.{BookState}
use Rattle.ug_coord.specs.Causes.{HasCause}
use Rattle.ug_coord.specs.Actions.{CoordinatorState}
use Rattle.ug_coord.specs.Coordinators.{Reaches, beginning}
use Rattle.ug_serve.specs.Worked.{AreAlwaysWorked}
use Rattle.ug_laws.specs.Workers.{IsUnused}

-- From a book that has given no ticket, and no rank of which has joined: the count of faults is the
-- same at the end, and memory did not run out. At each moment the bytes received from each rank are
-- what a worker sends.
pub record IsCalmTrace (b : BookState) (faults : ℕ) (now : CoordinatorState) : Type 0 where
  pub unused : IsUnused b
  pub away : (rank : ℕ) → is_joined (state_at b.ranks rank) ≡ false
  pub worked : AreAlwaysWorked now.said
  pub calm : IsCalm faults now.faults
  pub memory : now.out_of_memory ≡ false

-- Then no action takes a rank for gone: no bytes that come are bad, and no answer to a report is
-- its death.
abbrev pub CalmWorkersLive : Type 0
CalmWorkersLive = (b : BookState) (faults : ℕ) (now : CoordinatorState) (come : Reaches (beginning b faults) now)
    → IsCalmTrace b faults now → (rank : ℕ) → HasCause rank come.actions → ⊥
