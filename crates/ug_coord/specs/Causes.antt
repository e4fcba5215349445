-- Why a rank is taken for gone.
use Rattle.std.specs.Prelude.{◌≡◌, ◌⊎◌, ℕ, true, List}
use Rattle.std.specs.List.{Contains}
use Rattle.ug_io.specs.Outside.{Rose}
use Rattle.ug_frames.specs.declared.report.Report.{Report}
use Rattle.ug_rules.specs.declared.heard.Heard.{Heard}
use Rattle.ug_rules.specs.Hearing.{is_deadly}
use Rattle.ug_coord.specs.Actions.{Action, Lost, Nonsense, Took, Unsent}

-- with the action the rank is lost: the crew says so, a call for it or a turn failed, or its bytes
-- are not a report; an order could not be sent to it; or its report cannot be true
abbrev pub IsEndOf : ℕ → Action → Type 0
IsEndOf rank (Took other report answer) = (other ≡ rank) × (is_deadly answer ≡ true)
IsEndOf rank (Lost other cause) = other ≡ rank
IsEndOf rank (Unsent other order) = other ≡ rank
IsEndOf rank action = ⊥

-- one of the actions is such
pub record HasCause (rank : ℕ) (actions : List Action) : Type 0 where
  pub action : Action
  pub among : Contains actions action
  pub ends : IsEndOf rank action

-- a report of the rank got an answer that is its death
pub record HasDeadlyAnswer (rank : ℕ) (actions : List Action) : Type 0 where
  pub report : Report
  pub answer : Heard
  pub among : Contains actions (Took rank report answer)
  pub deadly : is_deadly answer ≡ true

-- what came from the rank was no report, or a report of it cannot be so
abbrev pub IsAtFault : ℕ → List Action → Type 0
IsAtFault rank actions = Contains actions (Lost rank Nonsense) ⊎ HasDeadlyAnswer rank actions

-- so it is, or the crew failed, as its count of faults shows, in which a rank that ended counts too
abbrev pub IsShownGone : ℕ → ℕ → ℕ → List Action → Type 0
IsShownGone before after rank actions = Rose before after ⊎ IsAtFault rank actions
