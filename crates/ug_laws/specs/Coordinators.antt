-- The law of coordinators at a crew: whatever comes of it, no better point is lost.
use Rattle.std.specs.Prelude.{◌≡◌, ◌⊎◌, ℕ, List, [], ◌∷◌, ◌++◌}
use Rattle.ug_frames.specs.declared.report.Report.{Report}
use Rattle.ug_frames.specs.Honest.{AreHonest}
use Rattle.ug_rules.specs.declared.heard.Heard.{Heard}
use Rattle.ug_rules.specs.declared.told.Told.{Told}
use Rattle.ug_rules.specs.State.{BookState}
use Rattle.ug_rules.specs.Books.{IsBook, IsSoundBook}
use Rattle.ug_coord.specs.Actions.{Broke, Came, Closed, Decided, Action, Halted, IsTrace}
use Rattle.ug_coord.specs.Actions.{Launched, Lost, Passed, Sent, SetUp, CoordinatorState, Took, Unclosed, Unfed}
use Rattle.ug_coord.specs.Actions.{Unread, Unsent, Unwritten}
use Rattle.ug_coord.specs.Actions.{Kept as Saved}
use Rattle.ug_coord.specs.Coordinators.{Reaches, StaysSound, beginning}
use Rattle.ug_laws.specs.declared.decision.Decision.{Decision}
use Rattle.ug_laws.specs.declared.decision.Decision.TheVariants.{Whole, CutShort}
use Rattle.ug_laws.specs.Honest.{IsGivenWith}
use Rattle.ug_laws.specs.Laws.{LosesNothing}

-- the orders that left the queue so far, the reports that were received, their answers, and how far
-- each decision went
pub record Past : Type 0 where
  pub told : List Told
  pub heard : List Report
  pub replies : List Heard
  pub decisions : List Decision

-- before the first action
abbrev pub nothing : Past
nothing = record { told = []; heard = []; replies = []; decisions = [] }

-- an order more
abbrev pub with_order : Past → Told → Past
with_order past told = record past { told = past.told ++ told ∷ [] }

-- a report more
abbrev pub with_report : Past → Report → Heard → Past
with_report past report answer =
    record past { heard = past.heard ++ report ∷ []; replies = past.replies ++ answer ∷ [] }

-- a decision more
abbrev pub with_decision : Past → Decision → Past
with_decision past decision = record past { decisions = past.decisions ++ decision ∷ [] }

-- behind an action
abbrev pub after : Action → Past → Past
after (Took rank report answer) past = with_report past report answer
after Decided past = with_decision past Whole
after (Halted steps) past = with_decision past (CutShort steps)
after (Sent rank order) past = with_order past (record { rank = rank; order = order })
after (Unsent rank order) past = with_order past (record { rank = rank; order = order })
after (Passed rank order) past = with_order past (record { rank = rank; order = order })
after (Unwritten rank order) past = with_order past (record { rank = rank; order = order })
after action past = past

-- the reports received are honest, for the tickets in orders that left the queue or wait
abbrev pub IsHonestSo : BookState → List Told → List Report → Type 0
IsHonestSo b told heard = AreHonest b.problem (IsGivenWith b.problem (told ++ b.orders)) heard

-- also at the moment between that a report comes and that it is answered
abbrev pub honest_at : CoordinatorState → Past → Action → Type 0
honest_at old past (Launched rank) = Unit {0}
honest_at old past (SetUp rank bytes) = Unit {0}
honest_at old past (Closed rank) = Unit {0}
honest_at old past (Came rank bytes) = Unit {0}
honest_at old past (Took rank report answer) =
    IsHonestSo old.book past.told (past.heard ++ report ∷ [])
honest_at old past (Lost rank cause) = Unit {0}
honest_at old past Decided = Unit {0}
honest_at old past (Sent rank order) = Unit {0}
honest_at old past (Unsent rank order) = Unit {0}
honest_at old past (Passed rank order) = Unit {0}
honest_at old past Broke = Unit {0}
honest_at old past (Unclosed rank) = Unit {0}
honest_at old past (Halted steps) = Unit {0}
honest_at old past (Unwritten rank order) = Unit {0}
honest_at old past (Unfed rank bytes) = Unit {0}
honest_at old past Unread = Unit {0}
honest_at old past Saved = Unit {0}

-- so it is through all of the actions
abbrev pub StaysHonest : (old : CoordinatorState) → Past → (actions : List Action) → (new : CoordinatorState)
    → IsTrace old actions new → Type 0
StaysHonest old past [] new trace = Unit {0}
StaysHonest old past (action ∷ actions) new (mid, does, more) = honest_at old past action
    × (IsHonestSo mid.book (after action past).told (after action past).heard
    × StaysHonest mid (after action past) actions new more)

-- the reports received are honest through a trace from the beginning
abbrev pub IsHonestFrom : (b : BookState) (faults : ℕ) (now : CoordinatorState) → Reaches (beginning b faults) now
    → Type 0
IsHonestFrom b faults now come = StaysHonest (beginning b faults) nothing come.actions now come.trace

-- From a sound book that has given no ticket: whatever comes of the crew, whichever ranks are lost
-- and whichever calls fail, at each moment the book is sound, so no better point is lost, as long
-- as what is received is honest.
abbrev pub CoordinatorsLoseNothing : Type 0
CoordinatorsLoseNothing = (b : BookState) (faults : ℕ) (now : CoordinatorState)
    (come : Reaches (beginning b faults) now) → IsBook b ⊎ (come.actions ≡ []) → IsSoundBook b → b.last ≡ 0
    → IsHonestFrom b faults now come
    → StaysSound (beginning b faults) now come × LosesNothing now.book
