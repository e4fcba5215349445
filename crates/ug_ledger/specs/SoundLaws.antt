-- What keeps a sound ledger sound: each event, one of them with a premise.
use Rattle.std.specs.Prelude.{ℕ, ℤ, List, Option}
use Rattle.ug_problem.specs.Instances.{Instance, root_of}
use Rattle.ug_problem.specs.Incumbents.{Incumbent, cutoff_point}
use Rattle.ug_nodes.specs.declared.change.Change.{Change}
use Rattle.ug_ledger.specs.Ledgers.{Current, Ledger}
use Rattle.ug_ledger.specs.Sound.{Sound}
use Rattle.ug_ledger.specs.Moves.{HasDone, HasDropped, HasEnded, HasGiven, HasHanded, HasImproved}
use Rattle.ug_ledger.specs.Moves.{HasTakenIn}
use Rattle.ug_ledger.specs.Dones.{IsBackedBy, IsSearched, IsTrueDone}

-- after the move the ledger is sound where it was before
abbrev pub KeepsSound : Instance → ℤ → Incumbent → (Ledger → Ledger → Type 0) → Type 0
KeepsSound p gap best Move =
    (old new : Ledger) → Move old new → Sound p gap best old → Sound p gap best new

abbrev pub EndedIsSound : Type 0
EndedIsSound = (p : Instance) (gap : ℤ) (best : Incumbent) → KeepsSound p gap best HasEnded

abbrev pub DroppedIsSound : Type 0
DroppedIsSound =
    (p : Instance) (gap : ℤ) (best : Incumbent)
    → KeepsSound p gap best (HasDropped p gap best)

-- if the ticket's box was searched
abbrev pub DoneIsSound : Type 0
DoneIsSound =
    (p : Instance) (gap : ℤ) (best : Incumbent) (r : ℕ) (c : Current)
    → IsSearched p gap best c → KeepsSound p gap best (λ old new. HasDone old new r c)

-- which it was where its Done is true, and the point that a better one has to beat backs its cutoff
abbrev pub DoneIsSearched : Type 0
DoneIsSearched =
    (p : Instance) (gap : ℤ) (best : Incumbent) (cutoff : Option ℤ) (c : Current)
    → IsBackedBy p gap (cutoff_point best) cutoff → IsTrueDone p gap best cutoff c → IsSearched p gap best c

abbrev pub TakenInIsSound : Type 0
TakenInIsSound =
    (p : Instance) (gap : ℤ) (best : Incumbent) (r : ℕ) (c : Current)
    → KeepsSound p gap best (λ old new. HasTakenIn old new r c)

abbrev pub GivenIsSound : Type 0
GivenIsSound =
    (p : Instance) (gap : ℤ) (best : Incumbent) (r : ℕ) (c : Current)
    → KeepsSound p gap best (λ old new. HasGiven old new r c)

abbrev pub HandedIsSound : Type 0
HandedIsSound =
    (p : Instance) (gap : ℤ) (best : Incumbent) (r : ℕ) (c : Current) (changes : List Change)
    → KeepsSound p gap best (λ old new. HasHanded (root_of p) old new r c changes)

abbrev pub ImprovedIsSound : Type 0
ImprovedIsSound =
    (p : Instance) (gap : ℤ) (old new : Incumbent) (l : Ledger) → HasImproved p gap old new
    → Sound p gap old l → Sound p gap new l
