-- A run, from a problem to the book with which it ends, and what it leaves on the disk.
use Rattle.std.specs.Prelude.{◌≡◌, ℕ, [], ◌∷◌, None, Some, Option, IfSome}
use Rattle.ug_disk.specs.Crashes.{Leaves}
use Rattle.ug_disk.specs.Histories.{DiskSeen, History}
use Rattle.ug_problem.specs.Instances.{Instance}
use Rattle.ug_problem.specs.Feasible.{Feasible}
use Rattle.ug_problem.specs.Incumbents.{one_kept}
use Rattle.ug_problem.specs.Right.{Right}
use Rattle.ug_rules.specs.declared.settings.Settings.{Settings}
use Rattle.ug_rules.specs.State.{BookState}
use Rattle.ug_book.specs.Starts.{started}
use Rattle.ug_snapshot.specs.Moments.{IsCovered}
use Rattle.ug_restart.specs.declared.outcome.Outcome.{Outcome}
use Rattle.ug_restart.specs.declared.fault.StartFault.{StartFault}
use Rattle.ug_restart.specs.Keeps.{KeepsImage}
use Rattle.ug_restart.specs.Starts.{IsBegun, IsGoneOn, IsNotBegun, IsNotGoneOn, IsSafeStart}
use Rattle.ug_checkpoint.specs.declared.saver.Saver.{Saver}
use Rattle.ug_restart.specs.Moments.{FindsIn, IsOfRun}
use Rattle.ug_restart.specs.Openings.{IsAcknowledgedStart}
use Rattle.ug_restart.specs.Outcomes.{IfBook}
use Rattle.ug_restart.specs.Outcomes.{IfAnswered}
use Rattle.ug_restart.specs.Outcomes.{IsMissedByFaults, IsSavedOrCounted, IsStranded}
use Rattle.ug_coord.specs.Keeping.{AreEachSaved}
use Rattle.ug_top.specs.Solved.{CountsSaves, Crewed, HasSolved, IsTrusted, StaysCalm}
use Rattle.ug_top.specs.Solved.{StrandsJustWhere}

-- the book with which a new solve without checkpoints begins: it is run 1, and the root is left
abbrev pub first_book : Instance → Settings → BookState
first_book p settings = started p 1 None ([] ∷ []) settings

-- the book is of the problem, under the settings
pub record IsOf (p : Instance) (settings : Settings) (b : BookState) : Type 0 where
  pub its_problem : b.problem ≡ p
  pub its_settings : b.settings ≡ settings

-- its answer is right for the problem: its point is feasible and beaten by no more than the gap, or
-- there is none, and no point is feasible
abbrev pub IsRightFor : Instance → Settings → BookState → Type 0
IsRightFor p settings b = Right p settings.gap (one_kept b.best)

-- The run began with such a book, and solvers led from it to the one with which it ended: threads,
-- if there is no crew. Whatever it began with, the incumbent then is feasible; if the beginning can
-- be trusted, and the solvers, an answer is right. By threads, and by a crew that stayed calm and
-- was worked, the run is not stranded; by another crew it is exactly if that is due, and the clause
-- on its saves holds of those that are among its actions.
pub record IsRun (Began : BookState → Type 0) (Trusted : (b : BookState) → Began b → Type 0)
    (Saves : BookState → ℕ → Type 0) (by : Crewed) (p : Instance) (settings : Settings)
    (outcome : Outcome) : Type 0 where
  pub given : BookState
  pub began : Began given
  pub solved : HasSolved by given outcome.end
  pub saves : CountsSaves by given outcome.end solved (Saves given)
  pub of : IfBook outcome.end (IsOf p settings)
  pub feasible : IfBook outcome.end (λ b. IfSome b.best (Feasible p))
  pub right : Trusted given began → IsTrusted by given outcome.end solved
      → IfAnswered outcome.end (IsRightFor p settings)
  pub live : StaysCalm by given outcome.end solved → ¬ IsStranded outcome.end
  pub strands : IfBook outcome.end (StrandsJustWhere by outcome.end)

-- a new solve without checkpoints
abbrev pub IsNewRun : Crewed → Instance → Settings → Outcome → Type 0
IsNewRun by p settings outcome =
    IsRun (λ b. b ≡ first_book p settings) (λ b t. Unit {0}) (λ b count. Unit {0}) by p settings
    outcome

-- The first image, of the book with which the run begins, was acknowledged once the run had begun.
-- Behind it this many saves were tried while it worked, and one of the ending book: each that
-- succeeded has the next sequence, and the others are counted.
pub record AreSavedInTurn (begun : Option History) (outcome : Outcome) (new : DiskSeen)
    (given : BookState) (count : ℕ) : Type 0 where
  pub saver : Saver
  pub first : IsAcknowledgedStart begun given saver
  pub each : AreEachSaved (Some saver) outcome new count

-- Until the run had begun, a crash leaves what the beginning of such a book may leave. From that
-- moment on recovery finds an image of this book's problem and run, whatever a crash leaves.
pub record IsFoundSince (Is : BookState → Type 0) (book : BookState) (old begun new : Option History)
    : Type 0 where
  pub before : Leaves (IsSafeStart old Is) old begun
  pub since : Leaves (FindsIn (IsOfRun book)) begun new

-- Since it had begun an image of the run is found. Recovery finds an image of the ending book, or
-- its save is one of those counted; saves are missed only where the disk failed, and no more than
-- it did, and it did not fail where none was.
pub record IsKeptOn (Is : BookState → Type 0) (given : BookState) (begun : Option History)
    (outcome : Outcome) (old new : DiskSeen) : Type 0 where
  pub found : IsFoundSince Is given old.told begun new.told
  pub saved : IsSavedOrCounted outcome new.told
  pub missed : IsMissedByFaults outcome old new

-- A run that saves, from a book that Is holds of, with the history of the disk when it had begun:
-- its saves are of the book from which it began, and so is what recovery finds.
pub record IsRunKept (Is : BookState → Type 0) (Trusted : (b : BookState) → Is b → Type 0)
    (by : Crewed) (p : Instance) (settings : Settings) (outcome : Outcome) (old new : DiskSeen)
    : Type 0 where
  pub begun : Option History
  pub ran : IsRun Is Trusted (AreSavedInTurn begun outcome new) by p settings outcome
  pub kept : IsKeptOn Is ran.given begun outcome old new

-- a new solve on a disk, whatever it had
abbrev pub IsSavedRun : Crewed → Instance → Settings → Outcome → DiskSeen → DiskSeen → Type 0
IsSavedRun by p settings outcome old new =
    IsRunKept (IsBegun p settings old.told) (λ b t. Unit {0}) by p settings outcome old new

-- a run that resumes from what the disk had; its answer is right where the very image from which it
-- resumes was Covered
abbrev pub IsRunOn : Crewed → Instance → Settings → Outcome → DiskSeen → DiskSeen → Type 0
IsRunOn by p settings outcome old new =
    IsRunKept (IsGoneOn p settings old.told) (λ b t. IsCovered t.found.image) by p settings outcome
    old new

-- No run begins, for this fault: no solver was started. At each moment a crash leaves what a
-- beginning may leave, so nothing was saved but, perhaps, its first image. If an image was found
-- before, whatever a crash left, one is found still: one that could be found before, or that first
-- one.
pub record IsNoRun (Is : BookState → Type 0) (Why : StartFault → Type 0) (by : Crewed)
    (old new : DiskSeen) (fault : StartFault) : Type 0 where
  pub why : Why fault
  pub idle : by.now ≡ by.was
  pub safe : Leaves (IsSafeStart old.told Is) old.told new.told
  pub kept : KeepsImage Is old.told new.told

-- no new solve begins, or none resumes
abbrev pub IsNoSavedRun : Crewed → Instance → Settings → DiskSeen → DiskSeen → StartFault → Type 0
IsNoSavedRun by p settings old new fault =
    IsNoRun (IsBegun p settings old.told) (IsNotBegun old.told new.told) by old new fault

abbrev pub IsNoRunOn : Crewed → Instance → Settings → DiskSeen → DiskSeen → StartFault → Type 0
IsNoRunOn by p settings old new fault =
    IsNoRun (IsGoneOn p settings old.told) (IsNotGoneOn p settings old.told new.told) by old new fault
