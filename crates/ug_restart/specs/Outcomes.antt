-- How a run has ended, the state of the disk then, and what its outcome says of that.
use Rattle.std.specs.Prelude.{◌≡◌, ◌≢◌, ◌≤◌, ◌<◌, ◌⊎◌, ◌+◌, ◌-◌, ◌^◌, [], Option, IfSome, IsSomeAnd}
use Rattle.ug_io.specs.Outside.{Rose}
use Rattle.ug_disk.specs.Histories.{DiskSeen, History}
use Rattle.ug_problem.specs.Feasible.{Feasible}
use Rattle.ug_problem.specs.Incumbents.{one_kept}
use Rattle.ug_problem.specs.Right.{Right}
use Rattle.ug_rules.specs.State.{BookState, held_nodes}
use Rattle.ug_restart.specs.declared.outcome.Attempt.{Attempt}
use Rattle.ug_restart.specs.declared.outcome.Attempt.TheVariants.{Saved, Missed, Unsaved}
use Rattle.ug_restart.specs.declared.outcome.End.{End}
use Rattle.ug_restart.specs.declared.outcome.End.TheVariants.{Answered, Limited, Stranded, Memory}
use Rattle.ug_restart.specs.declared.outcome.Outcome.{Outcome}
use Rattle.ug_restart.specs.Saves.{IsOfBook}
use Rattle.ug_restart.specs.Moments.{FindsOne}

-- the book with which it ended, if it did with one, has P
abbrev pub IfBook : End → (BookState → Type 0) → Type 0
IfBook (Answered b) P = P b
IfBook (Limited b) P = P b
IfBook (Stranded b) P = P b
IfBook Memory P = Unit {0}

-- if it ended with an answer, its book has P
abbrev pub IfAnswered : End → (BookState → Type 0) → Type 0
IfAnswered (Answered b) P = P b
IfAnswered (Limited b) P = Unit {0}
IfAnswered (Stranded b) P = Unit {0}
IfAnswered Memory P = Unit {0}

-- if it ended at the limit, its book has P
abbrev pub IfLimited : End → (BookState → Type 0) → Type 0
IfLimited (Answered b) P = Unit {0}
IfLimited (Limited b) P = P b
IfLimited (Stranded b) P = Unit {0}
IfLimited Memory P = Unit {0}

abbrev pub IsStranded : End → Type 0
IsStranded (Stranded b) = Unit {0}
IsStranded end = ⊥

-- its incumbent is feasible, if there is one
abbrev pub HasFeasible : BookState → Type 0
HasFeasible b = IfSome b.best (Feasible b.problem)

-- its answer is right: the incumbent is optimal within the gap, or there is none, and no point is
-- feasible
abbrev pub IsRight : BookState → Type 0
IsRight b = Right b.problem b.settings.gap (one_kept b.best)

-- a node is held, and the limit of reports is reached
pub record IsLimited (b : BookState) : Type 0 where
  pub held : held_nodes b ≢ []
  pub spent : b.settings.limit ≤ b.heard

-- the disk was not touched, and no save is counted
pub record IsUntouched (outcome : Outcome) (old new : DiskSeen) : Type 0 where
  pub told : new.told ≡ old.told
  pub calm : new.faults ≡ old.faults
  pub missed : outcome.missed ≡ 0
  pub unsaved : outcome.unsaved ≡ 0

-- Saves are missed only if the disk failed, and no more than it did, unless its count of faults is
-- at its largest value. It did not fail if none was missed.
pub record IsMissedByFaults (outcome : Outcome) (old new : DiskSeen) : Type 0 where
  pub rose : 0 < outcome.missed → Rose old.faults new.faults
  pub each : (outcome.missed + old.faults ≤ new.faults) ⊎ (2 ^ 64 - 1 ≤ new.faults)
  pub calm : outcome.missed ≡ 0 → new.faults ≡ old.faults

-- the outcome is right about the last save: recovery finds an image of this book, whatever a crash
-- leaves; or the save is one of those that are counted
abbrev pub IsLastSave : Outcome → Option History → BookState → Attempt → Type 0
IsLastSave outcome told b Saved = FindsOne (IsOfBook b) told
IsLastSave outcome told b Missed = 1 ≤ outcome.missed
IsLastSave outcome told b Unsaved = 1 ≤ outcome.unsaved

-- if the run ended with a book, that was to be saved, and the outcome says what became of it
abbrev pub IsSavedOrCounted : Outcome → Option History → Type 0
IsSavedOrCounted outcome told = IfBook outcome.end (λ b.
    IsSomeAnd outcome.last (IsLastSave outcome told b))
