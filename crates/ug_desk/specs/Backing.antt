-- Which cutoffs a pass knows to be backed by the incumbent.
use Rattle.std.specs.Prelude.{◌≡◌, ℤ, ◌≤◌, List, ◌++◌, Option, Some}
use Rattle.ug_ledger.specs.Dones.{IsBackedBy}
use Rattle.ug_rules.specs.State.{BookState}
use Rattle.ug_rules.specs.declared.heard.Heard.{Heard}
use Rattle.ug_rules.specs.declared.heard.Heard.TheVariants.{Kept, NotBetter, Unbacked}
use Rattle.ug_book.specs.declared.opening.Opening.{Opening}
use Rattle.ug_desk.specs.DeskStates.{DeskState, opening_state}
use Rattle.ug_desk.specs.Histories.{Entry, Replays}
use Rattle.ug_desk.specs.Passes.{PassState}
use Rattle.ug_desk.specs.Words.{word_of}

-- the book's incumbent backs the cutoff
abbrev pub Backs : BookState → Option ℤ → Type 0
Backs b cutoff = IsBackedBy b.problem b.settings.gap b.best cutoff

-- At each later turn of the pass the incumbent backs the cutoff: whatever comes behind what the
-- pass has seen, as long as the word of the incumbent's cutoff is at most what the pass knows.
abbrev pub IsKnownBacked : PassState → Option ℤ → Type 0
IsKnownBacked p cutoff =
    (o : Opening) (more : List Entry) (s : DeskState) → p.opening ≡ Some o
    → Replays (opening_state o) (p.seen ++ more) s → word_of s.book ≤ p.known
    → Backs s.book cutoff

-- the answer to a point that is kept, or is feasible and not better
abbrev pub IsWellOffered : Heard → Type 0
IsWellOffered Kept = Unit {0}
IsWellOffered (NotBetter was given) = Unit {0}
IsWellOffered answer = ⊥

-- the answer to a Done whose cutoff is not backed
abbrev pub IsUnbackedAnswer : Heard → Type 0
IsUnbackedAnswer (Unbacked cutoff incumbent) = Unit {0}
IsUnbackedAnswer answer = ⊥
