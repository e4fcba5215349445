-- What keeps ledgers: after each event there is one again.
use Rattle.std.specs.Prelude.{◌≡◌, ℕ, ℤ, List, Contains, Option}
use Rattle.ug_rows.specs.declared.area.Interval.{Interval}
use Rattle.ug_problem.specs.Instances.{Instance}
use Rattle.ug_problem.specs.Incumbents.{Incumbent}
use Rattle.ug_nodes.specs.declared.change.Change.{Change}
use Rattle.ug_nodes.specs.declared.node.Node.{Node}
use Rattle.ug_ledger.specs.Ledgers.{Current, Ledger}
use Rattle.ug_ledger.specs.Sound.{IsLedger}
use Rattle.ug_ledger.specs.Moves.{HasDone, HasDropped, HasEnded, HasGiven, HasHanded, HasTakenIn}
use Rattle.ug_ledger.specs.Moves.{IsLess, KeepsWork}

-- after the move there is a ledger where there was one before
abbrev pub KeepsLedger : List Interval → (Ledger → Ledger → Type 0) → Type 0
KeepsLedger root Move = (old new : Ledger) → Move old new → IsLedger root old → IsLedger root new

abbrev pub LessIsLedger : Type 0
LessIsLedger =
    (root : List Interval) → KeepsLedger root (λ old new. IsLess old new × KeepsWork old new)

-- if one node alone is held, as in a race, no ticket's end leaves work undone
abbrev pub AloneKeepsWork : Type 0
AloneKeepsWork =
    (old new : Ledger) (only : Node) → ((n : Node) → Contains new.held n → n ≡ only)
    → KeepsWork old new

abbrev pub EndedIsLedger : Type 0
EndedIsLedger = (root : List Interval) → KeepsLedger root HasEnded

abbrev pub DroppedIsLedger : Type 0
DroppedIsLedger =
    (root : List Interval) (p : Instance) (gap : ℤ) (best : Incumbent)
    → KeepsLedger root (HasDropped p gap best)

abbrev pub DoneIsLedger : Type 0
DoneIsLedger =
    (root : List Interval) (r : ℕ) (c : Current)
    → KeepsLedger root (λ old new. HasDone old new r c)

abbrev pub TakenInIsLedger : Type 0
TakenInIsLedger =
    (root : List Interval) (r : ℕ) (c : Current)
    → KeepsLedger root (λ old new. HasTakenIn old new r c)

abbrev pub GivenIsLedger : Type 0
GivenIsLedger =
    (root : List Interval) (r : ℕ) (c : Current)
    → KeepsLedger root (λ old new. HasGiven old new r c)

abbrev pub HandedIsLedger : Type 0
HandedIsLedger =
    (root : List Interval) (r : ℕ) (c : Current) (changes : List Change)
    → KeepsLedger root (λ old new. HasHanded root old new r c changes)
