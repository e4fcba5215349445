-- A line of actions of a worker at a desk, each with what stood when it was done.
use Rattle.std.specs.Prelude.{◌≡◌, ℕ, ◌≤◌, false, List, [], ◌∷◌, ◌++◌, Ok, IfSome}
use mathlib.Core.List.{IsPrefix}
use Rattle.ug_ranks.specs.Looks.{is_alive}
use Rattle.ug_ranks.specs.States.{state_at}
use Rattle.ug_book.specs.declared.opening.Opening.{Opening}
use Rattle.ug_desk.specs.Dones.{IsOfTicket}
use Rattle.ug_desk.specs.Entries.{IsReplayed, LockedState}
use Rattle.ug_desk.specs.Histories.{Entry, stated}
use Rattle.ug_desk.specs.Passes.{calls_of}
use Rattle.ug_desk.specs.Words.{floor_of, word_at}
use Rattle.ug_worker.specs.Releases.{usual}
use Rattle.ug_threads.specs.Actions.{Away, Called, Action, NextState, EndedInVain, LeftInVain, Read, Sat, Stage}

-- the entries that the history has of the actions of pass r, in order
abbrev pub entries_in : ℕ → List Action → List Entry
entries_in r [] = []
entries_in r (Called call ∷ past) = entries_in r past ++ record { pass = r; call = call } ∷ []
entries_in r (action ∷ past) = entries_in r past

-- each cutoff that was read is at least this one, both as words
abbrev pub AreReadAbove : Opening → ℕ → List Action → Type 0
AreReadAbove o least [] = Unit {0}
AreReadAbove o least (Read cutoff ∷ past) =
    (least ≤ word_at (floor_of o.problem) cutoff) × AreReadAbove o least past
AreReadAbove o least (action ∷ past) = AreReadAbove o least past

-- this stood once: a history leads there from the opening, in which pass r has the calls of these
-- actions and no other
pub record HasStood (o : Opening) (r : ℕ) (past : List Action) (history : List Entry)
    (l : LockedState) : Type 0 where
  pub began : l.opening ≡ o
  pub replayed : IsReplayed l history
  pub own : calls_of r history ≡ entries_in r past

-- No cutoff that was read before is below the one that is replied. The end of a task is reported in
-- vain if the task was not of the rank's ticket, and a worker leaves in vain if its rank was dead.
-- A worker releases tasks by the program's rule, or never.
abbrev pub IsInLine : Opening → ℕ → List Action → Action → Type 0
IsInLine o r past (Sat policy) = IfSome policy (λ rule. rule ≡ usual)
IsInLine o r past (Called (stated count low (Ok reply))) =
    AreReadAbove o (word_at (floor_of o.problem) reply.cutoff) past
IsInLine o r past (EndedInVain task history) =
    (l : LockedState) × HasStood o r past history l × ¬ IsOfTicket l.now.book r task
IsInLine o r past (LeftInVain history) = (l : LockedState) × HasStood o r past history l
    × (is_alive (state_at l.now.book.ranks r) ≡ false)
IsInLine o r past action = Unit {0}

-- the actions of pass r, the latest first, lead there from where nobody sits
abbrev pub LeadTo : Opening → ℕ → List Action → Stage → Type 0
LeadTo o r [] now = now ≡ Away
LeadTo o r (action ∷ past) now =
    (before : Stage) × LeadTo o r past before × NextState before action now × IsInLine o r past action

-- the history named by each action in vain is a prefix of this history
abbrev pub AreWithin : List Entry → List Action → Type 0
AreWithin history [] = Unit {0}
AreWithin history (EndedInVain task seen ∷ past) =
    IsPrefix seen history × AreWithin history past
AreWithin history (LeftInVain seen ∷ past) = IsPrefix seen history × AreWithin history past
AreWithin history (action ∷ past) = AreWithin history past
