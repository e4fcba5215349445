-- A pass: what it has seen of the history of its desk, and what a call of it does.
use Rattle.std.specs.Prelude.{◌≡◌, ◌≢◌, ◌⊎◌, ℕ, ℤ, ◌<◌, ◌≤◌, min, List, [], ◌++◌, length, Option, Some, None, IfSome}
use Rattle.std.specs.Prelude.{false, slice_get, unsigned_abs, ◌*◌, ◌^◌, Result, Ok, Err}
use mathlib.Core.List.{IsPrefix}
use Rattle.atomic_table.specs.Seated.{TableId}
use Rattle.ug_rows.specs.declared.area.Interval.{Interval}
use Rattle.ug_problem.specs.Instances.{Instance}
use Rattle.ug_base.specs.Tasks.{TaskState}
use Rattle.ug_ranks.specs.Looks.{is_alive}
use Rattle.ug_ranks.specs.States.{state_at}
use Rattle.ug_rules.specs.declared.heard.Heard.{Heard}
use Rattle.ug_rules.specs.declared.heard.Heard.TheVariants.{Stale}
use Rattle.ug_book.specs.declared.opening.Opening.{Opening}
use Rattle.ug_snapshot.specs.Snapshots.{SnapshotState}
use Rattle.ug_worker.specs.declared.took.Took.{Took}
use Rattle.ug_worker.specs.declared.took.Took.TheVariants.{Work}
use Rattle.ug_worker.specs.declared.took.Untaken.{Untaken}
use Rattle.ug_worker.specs.declared.took.Untaken.TheVariants.{Deciding, Making}
use Rattle.ug_turn.specs.Histories.{calls_by, longer, told}
use Rattle.ug_turn.specs.Locks.{id_of, passes_of}
use Rattle.ug_turn.specs.Seats.{IsAtRest, IsAtRestAt, lock_of, view_of}
use Rattle.ug_desk.specs.declared.desk.Desk.{Desk}
use Rattle.ug_desk.specs.declared.pass.Pass.TheInside.{Inside}
use Rattle.ug_desk.specs.Dones.{IsOfTicket}
use Rattle.ug_desk.specs.Histories.{Call, Entry, copied, ended, handed, left, taken}
use Rattle.ug_desk.specs.Entries.{IsReplayed, IsSnapshotOf, LockedState}
use Rattle.ug_desk.specs.LockedBooks.{SeatState, ViewState}
use Rattle.ug_desk.specs.Words.{cutoff_at, floor_of, no_word, word_of}

-- at which lock it sits, and for which rank it speaks; what the history began with, the beginning
-- of it that the pass has seen, the pass's own calls, and the least cutoff that it knows, as a word
pub record PassState : Type 0 where
  pub lock : TableId
  pub rank : ℕ
  pub opening : Option Opening
  pub seen : List Entry
  pub mine : List Entry
  pub known : ℕ

-- what a seat with this view shows of its pass
abbrev pub pass_seen : TableId → ℕ → ViewState → PassState
pass_seen lock rank view = record {
  lock = lock;
  rank = rank;
  opening = view.opening;
  seen = view.seen;
  mine = view.mine;
  known = view.known;
}

abbrev pub pass_of : Inside → PassState
pass_of p = pass_seen (lock_of p.seat) p.rank (view_of p.seat)

-- the invariant of a pass: its seat is at rest, its rank is one of the opening's, and it knows the
-- floor from which cutoff words count
pub record IsPass (p : Inside) : Type 0 where
  pub rest : IsAtRest p.seat
  pub own : (view_of p.seat).pass ≡ p.rank
  pub here : IfSome (view_of p.seat).opening (λ o. p.rank < o.settings.solvers)
  pub floor : IfSome (view_of p.seat).opening (λ o. p.floor ≡ floor_of o.problem)
  pub small : unsigned_abs p.floor ≤ 2 * 10 ^ 37

-- the seat by which a pass speaks
pub record IsSeatOf (p : PassState) (s : SeatState) : Type 0 where
  pub rest : IsAtRestAt p.lock s
  pub own : (view_of s).pass ≡ p.rank
  pub view : pass_seen p.lock p.rank (view_of s) ≡ p

-- the seats of passes, in their order
pub record AreSeatsOf (passes : List PassState) (seats : List SeatState) : Type 0 where
  pub count : length seats ≡ length passes
  pub each : (k : ℕ) (p : PassState) (s : SeatState) → slice_get passes k ≡ Some p
      → slice_get seats k ≡ Some s → IsSeatOf p s

-- the lock of a desk, and how many passes it has
abbrev pub lock_of_desk : Desk → TableId
lock_of_desk desk = id_of desk.turn

abbrev pub width_of : Desk → ℕ
width_of desk = passes_of desk.turn

-- a pass that has seen nothing, and made no call
pub record IsNewPass (lock : TableId) (o : Opening) (r : ℕ) (p : PassState) : Type 0 where
  pub lock_is : p.lock ≡ lock
  pub rank_is : p.rank ≡ r
  pub opened : p.opening ≡ Some o
  pub seen : p.seen ≡ []
  pub mine : p.mine ≡ []

-- one for each rank, in their order
abbrev pub AreNewPasses : TableId → Opening → List PassState → Type 0
AreNewPasses lock o passes =
    (r : ℕ) (p : PassState) → slice_get passes r ≡ Some p → IsNewPass lock o r p

-- the entry of a call, if it has one
abbrev pub entry_by : ℕ → Option Call → Option Entry
entry_by r None = None
entry_by r (Some call) = Some (record { pass = r; call = call })

-- whose entries these are
abbrev pub calls_of : ℕ → List Entry → List Entry
calls_of r history = calls_by (λ (e : Entry). e.pass) r history

-- A call of a pass: there is one history, which leads from the opening to the state after it,
-- begins with all that the pass had seen, and ends with this call, if it has an entry. The pass's
-- own calls are in it, each once.
pub record HasCalledAt (call : Option Call) (after : LockedState) (old new : PassState) : Type 0 where
  pub between : List Entry
  pub seen : new.seen ≡ (old.seen ++ between) ++ told (entry_by old.rank call)
  pub replayed : IsReplayed after new.seen
  pub opened : old.opening ≡ Some after.opening
  pub mine : new.mine ≡ old.mine ++ told (entry_by old.rank call)
  pub own : calls_of new.rank new.seen ≡ new.mine
  pub known : new.known ≡ word_of after.now.book
  pub lower : new.known ≤ old.known
  pub same : (new.lock ≡ old.lock) × (new.rank ≡ old.rank) × (new.opening ≡ old.opening)

abbrev pub HasCalled : Option Call → PassState → PassState → Type 0
HasCalled call old new = (after : LockedState) × HasCalledAt call after old new

-- the problem is that with which the history began
abbrev pub IsItsProblem : PassState → Instance → Type 0
IsItsProblem p problem = IfSome p.opening (λ o. problem ≡ o.problem)

-- The work was taken. If memory runs out while its task is made, it was taken all the same.
abbrev pub HasTakenIn : Result Took Untaken → PassState → PassState → Type 0
HasTakenIn (Ok took) old new = HasCalled (Some (taken (Ok took))) old new
HasTakenIn (Err (Deciding stood)) old new =
    HasCalled (Some (taken (Err (Deciding stood)))) old new
HasTakenIn (Err Making) old new = HasCalled (Some (taken (Err Making))) old new
    ⊎ (task : TaskState) × HasCalled (Some (taken (Ok (Work task)))) old new

-- a box as wide as the problem's is handed; another is Stale, and has no entry
pub record HasHandedIn (number : ℕ) (area : List Interval) (answer : Heard) (old new : PassState)
    : Type 0 where
  pub after : LockedState
  pub wide : length area ≡ length after.now.book.problem.columns
      → HasCalledAt (Some (handed number area answer)) after old new
  pub other : length area ≢ length after.now.book.problem.columns
      → HasCalledAt None after old new × (answer ≡ Stale)

-- a task that is not of the rank's ticket is Stale, and its end has no entry
pub record HasEndedOther (task : TaskState) (answer : Heard) (old new : PassState) : Type 0 where
  pub after : LockedState
  pub called : HasCalledAt None after old new
  pub other : ¬ IsOfTicket after.now.book old.rank task
  pub stale : answer ≡ Stale

-- the end of a task
abbrev pub HasEndedIn : TaskState → Heard → PassState → PassState → Type 0
HasEndedIn task answer old new =
    HasCalled (Some (ended task answer)) old new ⊎ HasEndedOther task answer old new

-- the rank was dead before
pub record HasLeftBefore (old new : PassState) : Type 0 where
  pub after : LockedState
  pub called : HasCalledAt None after old new
  pub gone : is_alive (state_at after.now.book.ranks old.rank) ≡ false

-- the rank has left
abbrev pub HasLeft : PassState → PassState → Type 0
HasLeft old new = HasCalled (Some left) old new ⊎ HasLeftBefore old new

-- a snapshot is of the state behind its own entry, which it counts
pub record HasCopied (s : SnapshotState) (old new : PassState) : Type 0 where
  pub after : LockedState
  pub called : HasCalledAt (Some copied) after old new
  pub copy : IsSnapshotOf after after.count s

-- the cutoff was read: it is what the pass then knows, and no higher than what it knew
pub record HasLooked (cutoff : Option ℤ) (old new : PassState) : Type 0 where
  pub falls : new.known ≤ old.known
  pub small : new.known ≤ no_word
  pub its : IfSome old.opening (λ o. cutoff ≡ cutoff_at (floor_of o.problem) new.known)
  pub same : new ≡ record old { known = new.known }

-- what a pass has seen behind a meeting with another: the longer list, which both begin
pub record HasMet (old other new : PassState) : Type 0 where
  pub seen : new ≡ record old {
    seen = longer old.seen other.seen;
    known = min old.known other.known;
  }
  pub mine : IsPrefix old.seen new.seen
  pub theirs : IsPrefix other.seen new.seen

-- in this history the pass has its calls, each once, behind what it has seen
pub record IsInHistory (history : List Entry) (p : PassState) : Type 0 where
  pub begins : IsPrefix p.seen history
  pub own : calls_of p.rank history ≡ p.mine

-- what stands where a desk is closed: a history leads to it, in which each pass has its calls, and
-- nobody else has one
pub record IsClosed (passes : List PassState) (l : LockedState) : Type 0 where
  pub history : List Entry
  pub replayed : IsReplayed l history
  pub opened : (o : Opening)
      → ((k : ℕ) (p : PassState) → slice_get passes k ≡ Some p → p.opening ≡ Some o)
      → l.opening ≡ o
  pub each : (k : ℕ) (p : PassState) → slice_get passes k ≡ Some p → IsInHistory history p
  pub none : (r : ℕ) → length passes ≤ r → calls_of r history ≡ []
