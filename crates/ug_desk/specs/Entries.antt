-- What lies behind the lock, and what an entry more in its history changes.
use Rattle.std.specs.Prelude.{◌≡◌, ℕ, ◌+◌, ◌-◌, ◌^◌, ◌⊎◌, min, List, length, MatchBool}
use Rattle.ug_ranks.specs.States.{state_at}
use Rattle.ug_rules.specs.declared.heard.Heard.{Heard}
use Rattle.ug_rules.specs.declared.heard.Heard.TheVariants.{Stale}
use Rattle.ug_rules.specs.Books.{IsSoundBook}
use Rattle.ug_ranks.specs.Looks.{is_alive}
use Rattle.ug_book.specs.Views.{IsSameRun}
use Rattle.ug_base.specs.Tasks.{TaskState}
use Rattle.ug_snapshot.specs.Moments.{IsImageOf}
use Rattle.ug_book.specs.declared.opening.Opening.{Opening}
use Rattle.ug_snapshot.specs.Snapshots.{SnapshotState}
use Rattle.ug_book.specs.Openings.{IsCoveredOpening, opening_book}
use Rattle.ug_desk.specs.DeskStates.{DeskState, opening_state}
use Rattle.ug_desk.specs.Dones.{IsOfTicket}
use Rattle.ug_desk.specs.Histories.{Call, Entry, Replays, Step, ended}

-- what the desk began with, what stands now, and how many calls its history has; the count stands
-- still at its greatest value
pub record LockedState : Type 0 where
  pub opening : Opening
  pub now : DeskState
  pub count : ℕ

-- one call more
abbrev pub one_more : ℕ → ℕ
one_more count = min (count + 1) (2 ^ 64 - 1)

-- this history leads from the opening to what stands now, and is as long as counted
pub record IsReplayed (l : LockedState) (history : List Entry) : Type 0 where
  pub replays : Replays (opening_state l.opening) history l.now
  pub counted : l.count ≡ min (length history) (2 ^ 64 - 1)

-- there is a history that leads to it; the book has the opening's problem, run and settings, and is
-- sound where that is covered; each rank has a ticket
pub record IsLocked (l : LockedState) : Type 0 where
  pub history : List Entry
  pub replayed : IsReplayed l history
  pub same : IsSameRun (opening_book l.opening) l.now.book
  pub sound : IsCoveredOpening l.opening → IsSoundBook l.now.book
  pub wide : length l.now.tickets ≡ length l.now.book.ranks

-- the call is one entry more
pub record HasEntered (r : ℕ) (call : Call) (old new : LockedState) : Type 0 where
  pub step : Step r call old.now new.now
  pub opening : new.opening ≡ old.opening
  pub count : new.count ≡ one_more old.count

-- a call that speaks for a rank which lives is one; from a dead one nothing changes
abbrev pub HasEnteredAlive : ℕ → Call → LockedState → LockedState → Type 0
HasEnteredAlive r call old new =
    MatchBool (is_alive (state_at old.now.book.ranks r)) (HasEntered r call old new) (new ≡ old)

-- the task is not of the rank's ticket: the answer is Stale, and nothing changes
pub record IsOfOther (r : ℕ) (task : TaskState) (answer : Heard) (old new : LockedState)
    : Type 0 where
  pub other : ¬ IsOfTicket old.now.book r task
  pub stale : answer ≡ Stale
  pub same : new ≡ old

-- the end of a task of the rank's ticket is an entry
abbrev pub HasEnded : ℕ → TaskState → Heard → LockedState → LockedState → Type 0
HasEnded r task answer old new =
    HasEntered r (ended task answer) old new ⊎ IsOfOther r task answer old new

-- the snapshot is of this state, and of a history with this number of calls
pub record IsSnapshotOf (l : LockedState) (calls : ℕ) (s : SnapshotState) : Type 0 where
  pub its_opening : s.opening ≡ l.opening
  pub moment : IsImageOf l.now.book 1 s.image
  pub calls_are : s.count ≡ calls
