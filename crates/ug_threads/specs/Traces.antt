-- The trace of a pass: its own calls are those of workers that sat at it, one after another.
use Rattle.std.specs.Prelude.{◌≡◌, ℕ, ℤ, ◌<◌, ◌≤◌, List, [], Option, Some, None, IfSome}
use Rattle.ug_book.specs.declared.opening.Opening.{Opening}
use Rattle.ug_worker.specs.declared.search.Asked.{Asked}
use Rattle.ug_worker.specs.declared.round_count.RoundCount.{RoundCount}
use Rattle.ug_worker.specs.Engagements.{Engaged}
use Rattle.ug_desk.specs.declared.desk.Desk.{Desk}
use Rattle.ug_desk.specs.Backing.{IsKnownBacked}
use Rattle.ug_desk.specs.Entries.{IsReplayed, LockedState}
use Rattle.ug_desk.specs.Histories.{Entry}
use Rattle.ug_desk.specs.Passes.{PassState, calls_of, lock_of_desk}
use Rattle.ug_threads.specs.Actions.{Away, Busy, Action, Free, Stage}
use Rattle.ug_threads.specs.Lines.{AreReadAbove, AreWithin, LeadTo, entries_in}

-- these are the entries of pass r, whose actions lead there; they were done within this history
pub record IsTrace (o : Opening) (r : ℕ) (history own : List Entry) (now : Stage)
    : Type 0 where
  pub actions : List Action
  pub lead : LeadTo o r actions now
  pub calls : entries_in r actions ≡ own
  pub within : AreWithin history actions

-- so a pass has come there, and no cutoff was read below what it knows
pub record IsCome (o : Opening) (p : PassState) (now : Stage) : Type 0 where
  pub trace : IsTrace o p.rank p.seen p.mine now
  pub read : AreReadAbove o p.known trace.actions

abbrev pub Reaches : PassState → Stage → Type 0
Reaches p now = (o : Opening) → p.opening ≡ Some o → IsCome o p now

-- The task is of the desk's problem and gap, under a cutoff that the pass knows to be backed; so
-- much is asked of its worker.
pub record IsOfDesk (p : PassState) (asked : Asked) (e : Engaged) : Type 0 where
  pub problem : (o : Opening) → p.opening ≡ Some o → e.task.problem ≡ o.problem
  pub gap : (o : Opening) → p.opening ≡ Some o → e.task.gap ≡ o.settings.gap
  pub known : IsKnownBacked p e.task.cutoff
  pub count : e.asked ≡ asked.count
  pub racing : e.racing ≡ asked.racing

-- the stage of a worker with this round count, and its task, if it has one
abbrev pub stage_of : RoundCount → Option Engaged → Stage
stage_of round_count None = Free round_count
stage_of round_count (Some e) = Busy round_count e

-- a worker sits at the pass, which is one of the desk
pub record IsSeated (desk : Desk) (p : PassState) (asked : Asked) (round_count : RoundCount)
    (some : Option Engaged) : Type 0 where
  pub lock : p.lock ≡ lock_of_desk desk
  pub trace : Reaches p (stage_of round_count some)
  pub its : IfSome some (IsOfDesk p asked)

-- nobody sits at it any more
pub record IsLeft (desk : Desk) (p : PassState) : Type 0 where
  pub lock : p.lock ≡ lock_of_desk desk
  pub trace : Reaches p Away

-- a worker stands where it stood, and the pass knows what it knew to be backed: snapshots were
-- taken, or nothing was done
pub record HasStayed (p q : PassState) : Type 0 where
  pub lock : q.lock ≡ p.lock
  pub rank : q.rank ≡ p.rank
  pub opening : q.opening ≡ p.opening
  pub trace : (round_count : RoundCount) (some : Option Engaged) → Reaches p (stage_of round_count some)
      → Reaches q (stage_of round_count some)
  pub known : (cutoff : Option ℤ) → IsKnownBacked p cutoff → IsKnownBacked q cutoff

-- What workers do that end: a history leads to what then stands, in which each pass has the calls
-- of workers that have left, and nobody else has one.
pub record IsLedByWorkers (o : Opening) (l : LockedState) : Type 0 where
  pub history : List Entry
  pub replayed : IsReplayed l history
  pub each : (r : ℕ) → r < o.settings.solvers
      → IsTrace o r history (calls_of r history) Away
  pub none : (r : ℕ) → o.settings.solvers ≤ r → calls_of r history ≡ []
