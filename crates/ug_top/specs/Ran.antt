-- What a run did, by its status.
use Rattle.std.specs.Prelude.{◌≡◌, ◌≢◌, ◌⊎◌, ℕ, List, [], Option, None, Some, IfSome}
use Rattle.clap.specs.Walk.{Text}
use Rattle.ug_problem.specs.Instances.{Instance}
use Rattle.ug_drafts.specs.declared.fault.MpsFault.{MpsFault}
use Rattle.ug_mps.specs.Reads.{Reads, FirstFault}
use Rattle.ug_io.specs.Links.{LinkSeen}
use Rattle.ug_io.specs.Outside.{Rose, SinkSeen, Takes, TakesFront}
use Rattle.ug_print.specs.Lines.{memory_line}
use Rattle.ug_cli.specs.Taken.{TakenWords}
use Rattle.ug_cli.specs.declared.plan.Plan.{Plan}
use Rattle.ug_cli.specs.declared.plan.Plan.TheVariants as plans
use Rattle.ug_top.specs.Outside.{Outside}
use Rattle.ug_top.specs.Solved.{Crewed, IsSeenCalm, IsStillThere, KeepsCoveredBy}
use Rattle.ug_mps.specs.Enough.{StopsAtEnd}
use Rattle.ug_top.specs.Ends.{AreLinesOf, IsAccounted, IsDiskless, IsLeftAlone, ShowsStatus}
use Rattle.ug_top.specs.Ends.{crews_at, status_of, text_of}
use Rattle.ug_top.specs.declared.ended.Ended.{Ended}
use Rattle.ug_top.specs.declared.status.Status.{Status}
use Rattle.ug_top.specs.declared.status.Status.TheVariants.{Usage, Refused, ReadFault, Stranded}
use Rattle.ug_top.specs.declared.status.Status.TheVariants.{WriteFault, Memory}

-- the first fault of the file was reported, unless the source failed or memory ran out
abbrev pub IsToldOf : Status → Type 0
IsToldOf status = (status ≡ Refused) ⊎ ((status ≡ ReadFault) ⊎ (status ≡ Memory))

-- If the source's bytes are known: the first fault of a file that has one is reported, and a file
-- that states a problem is not refused. If threads solved, or a crew that stayed calm and was
-- worked, as it reports itself, the run is not stranded.
pub record IsComplete (boxed : Option ℕ) (left : Option (List ℕ)) (by : Crewed) (status : Status)
    : Type 0 where
  pub fault : IfSome left (λ bytes. (f : MpsFault) → FirstFault bytes boxed f → IsToldOf status)
  pub problem : IfSome left (λ bytes. (p : Instance) → Reads bytes boxed p → status ≢ Refused)
  pub live : IsSeenCalm by → status ≢ Stranded

-- so it is of a plan that reads a file
abbrev pub IsCompleteOf : Plan → Option (List ℕ) → Crewed → Status → Type 0
IsCompleteOf (plans.Solve solve) left by status =
    IsComplete solve.settings.bounds.boxed left by status
IsCompleteOf (plans.Restart restart) left by status =
    IsComplete restart.settings.bounds.boxed left by status
IsCompleteOf (plans.Worker worker) left by status = Unit {0}
IsCompleteOf (plans.Show show) left by status = Unit {0}
IsCompleteOf (plans.Gen gen) left by status = Unit {0}

-- the link shows the status of a plan that serves it
abbrev pub IsExactOf : Plan → Option LinkSeen → Status → Type 0
IsExactOf (plans.Solve solve) link status = Unit {0}
IsExactOf (plans.Restart restart) link status = Unit {0}
IsExactOf (plans.Worker worker) link status = IfSome link (λ seen. ShowsStatus seen status)
IsExactOf (plans.Show show) link status = Unit {0}
IsExactOf (plans.Gen gen) link status = Unit {0}

-- reading stopped with the line ENDATA, unless the source failed or memory ran out
abbrev pub IsReadTo : Outside → Outside → Status → Type 0
IsReadTo old new status = (status ≡ ReadFault)
    ⊎ ((status ≡ Memory) ⊎ StopsAtEnd old.source.left new.source.left)

-- The words ask for a plan, and its result is due. Without a checkpoint the disk is left alone. If
-- there was no crew there is none, and the solvers were threads.
pub record IsWorked (words : List Text) (old new : Outside) (status : Status) (text : List ℕ)
    : Type 0 where
  pub plan : Plan
  pub taken : TakenWords words plan
  pub lines : AreLinesOf plan old new status text
  pub accounted : IsAccounted (KeepsCoveredBy (crews_at old new) old.disk new.disk) old new status
  pub crew : IsStillThere old.crew new.crew
  pub alone : IsDiskless plan → IsLeftAlone old.disk new.disk
  pub complete : IsCompleteOf plan old.source.left (crews_at old new) status
  pub exact : IsExactOf plan new.link status
  pub read : IsReadTo old new status

-- the words ask for no plan, and nothing is due
pub record IsNoPlan (words : List Text) (status : Status) (text : List ℕ) : Type 0 where
  pub none : (plan : Plan) → TakenWords words plan → ⊥
  pub usage : status ≡ Usage
  pub nothing : text ≡ []

-- memory ran out when the words were read
pub record IsUnread (status : Status) (text : List ℕ) : Type 0 where
  pub memory : status ≡ Memory
  pub line : text ≡ memory_line

-- if no plan is carried out, nothing is read or saved
pub record IsIdle (words : List Text) (old new : Outside) (status : Status) (text : List ℕ)
    : Type 0 where
  pub untouched : new ≡ old
  pub why : IsNoPlan words status text ⊎ IsUnread status text

-- the status and the lines of what the words ask for; none where they ask for nothing
abbrev pub due_status : Option Ended → Status
due_status None = Usage
due_status (Some ended) = status_of ended

abbrev pub due_text : Option Ended → List ℕ
due_text None = []
due_text (Some ended) = text_of ended

-- this status and these lines are due
abbrev pub IsDue : List Text → Outside → Outside → Status → List ℕ → Type 0
IsDue words old new status text =
    IsWorked words old new status text ⊎ IsIdle words old new status text

-- the lines were written
pub record IsWritten (due status : Status) (text : List ℕ) (old new : SinkSeen) : Type 0 where
  pub is : status ≡ due
  pub all : Takes old.written new.written text
  pub calm : new.faults ≡ old.faults

-- a prefix of the lines was, and then the sink failed
pub record IsCutShort (status : Status) (text : List ℕ) (old new : SinkSeen) : Type 0 where
  pub is : status ≡ WriteFault
  pub front : TakesFront old.written new.written text
  pub fault : Rose old.faults new.faults

-- the lines that are due are written, or the status is a write fault
abbrev pub HasTold : Status → List ℕ → SinkSeen → SinkSeen → Status → Type 0
HasTold due text old new status =
    IsWritten due status text old new ⊎ IsCutShort status text old new

-- What was due is printed.
pub record HasRun (words : List Text) (old new : Outside) (before after : SinkSeen)
    (status : Status) : Type 0 where
  pub due_status : Status
  pub text : List ℕ
  pub due : IsDue words old new due_status text
  pub told : HasTold due_status text before after status
