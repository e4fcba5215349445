-- How each command ends: its status and its lines, by what it read and what the disk had.
use Rattle.std.specs.Prelude.{◌≡◌, ℕ, ◌<◌, ◌≤◌, Bool, true, false, List, [], Option, None, Some}
use Rattle.std.specs.Prelude.{◌⊎◌, IsSome, IsSomeAnd}
use Rattle.ug_io.specs.Crews.{CrewSeen}
use Rattle.ug_io.specs.Links.{LinkSeen}
use Rattle.ug_io.specs.Outside.{Rose, SourceSeen}
use Rattle.ug_disk.specs.declared.slot.Slot.{Slot}
use Rattle.ug_disk.specs.Histories.{DiskSeen}
use Rattle.ug_problem.specs.Instances.{Instance}
use Rattle.ug_restart.specs.declared.fault.StartFault.{StartFault}
use Rattle.ug_restart.specs.declared.fault.StartFault.TheVariants as faults
use Rattle.ug_restart.specs.declared.outcome.Outcome.{Outcome}
use Rattle.ug_checkpoint.specs.declared.found.Found.{Found}
use Rattle.ug_checkpoint.specs.Recovery.{HasFound, IsFirstBadSlot, Loaded}
use Rattle.ug_restart.specs.Outcomes.{IsUntouched}
use Rattle.ug_top.specs.Runs.{IsNewRun, IsNoRunOn, IsNoSavedRun, IsRunOn, IsSavedRun}
use Rattle.ug_print.specs.Lines.{memory_line, read_fault_line}
use Rattle.ug_print.specs.Faults.{fault_line}
use Rattle.ug_print.specs.Checkpoints.{AreCheckpointLines}
use Rattle.ug_gen.specs.Stated.{instance}
use Rattle.ug_serve.specs.declared.served.Served.{Served}
use Rattle.ug_serve.specs.declared.served.Served.TheVariants as service
use Rattle.ug_serve.specs.Endings.{IsLost}
use Rattle.ug_serve.specs.Serving.{HasServed}
use Rattle.ug_serve.specs.Traces as links
use Rattle.ug_coord.specs.Coordinators as crews
use Rattle.clap.specs.Walk.{Text}
use Rattle.ug_cli.specs.Taken.{TakenWords, needs_of}
use Rattle.ug_cli.specs.declared.plan.Asked.{Asked}
use Rattle.ug_cli.specs.declared.plan.Gen.{Gen}
use Rattle.ug_cli.specs.declared.plan.Plan.{Plan}
use Rattle.ug_cli.specs.declared.plan.Plan.TheVariants as plans
use Rattle.ug_top.specs.Outside.{Outside}
use Rattle.ug_top.specs.Solved.{Crewed, unchanged}
use Rattle.ug_top.specs.Plans.{IsPlanned, IsPlannedGen, settings_for, settings_made}
use Rattle.ug_top.specs.Lines.{AreFaultLines, AreRunLines, IsEndLine, IsRefusedLine, States}
use Rattle.ug_top.specs.declared.status.Status.{Status}
use Rattle.ug_top.specs.declared.status.Status.TheVariants as statuses
use Rattle.ug_top.specs.declared.ended.Ended.{Ended}
use Rattle.ug_top.specs.declared.ended.Ended.TheVariants.{Lines, Quiet, Refused, ReadFault, Memory}

-- its status and its lines
abbrev pub status_of : Ended → Status
status_of (Lines status text best) = status
status_of (Quiet status) = status
status_of (Refused refusal text) = statuses.Refused
status_of ReadFault = statuses.ReadFault
status_of Memory = statuses.Memory

abbrev pub text_of : Ended → List ℕ
text_of (Lines status text best) = text.items
text_of (Quiet status) = []
text_of (Refused refusal text) = text.items
text_of ReadFault = read_fault_line
text_of Memory = memory_line

-- ---- a file

-- A run of the problem that the source states, or why it does not begin, whose lines are not there.
pub record HasEndedUnprinted (Ran : Instance → Outcome → Type 0)
    (Not : Instance → StartFault → Type 0) (boxed : Option ℕ) (left : Option (List ℕ)) : Type 0 where
  pub problem : Instance
  pub states : States left boxed problem
  pub ended : ((outcome : Outcome) × Ran problem outcome)
      ⊎ ((fault : StartFault) × Not problem fault)

-- Memory ran out: before anything was saved or solved, or so that no more can be said of how a run
-- ended, or why none began. What is on the disk is what such a run leaves there.
pub record AreMemoryLines (Idle : Type 0) (Ended : Type 0) (text : List ℕ) : Type 0 where
  pub line : text ≡ memory_line
  pub when : Idle ⊎ Ended

-- the lines of each status of a run of the problem that the source states
abbrev pub AreFileLines : Type 0 → (Instance → Outcome → Type 0)
    → (Instance → StartFault → Type 0) → Asked → Option (List ℕ) → Status → List ℕ → Type 0
AreFileLines Idle Ran Not asked left statuses.Answered text =
    AreRunLines Ran asked.bounds.gap asked.bounds.boxed left statuses.Answered text
AreFileLines Idle Ran Not asked left statuses.Limited text =
    AreRunLines Ran asked.bounds.gap asked.bounds.boxed left statuses.Limited text
AreFileLines Idle Ran Not asked left statuses.Stranded text =
    AreRunLines Ran asked.bounds.gap asked.bounds.boxed left statuses.Stranded text
AreFileLines Idle Ran Not asked left statuses.Refused text =
    IsRefusedLine asked.bounds.boxed left text
AreFileLines Idle Ran Not asked left statuses.ReadFault text = text ≡ read_fault_line
AreFileLines Idle Ran Not asked left statuses.Memory text =
    AreMemoryLines Idle (HasEndedUnprinted Ran Not asked.bounds.boxed left) text
AreFileLines Idle Ran Not asked left statuses.DiskFault text =
    AreFaultLines Not asked.bounds.boxed left statuses.DiskFault text
AreFileLines Idle Ran Not asked left statuses.NoCheckpoint text =
    AreFaultLines Not asked.bounds.boxed left statuses.NoCheckpoint text
AreFileLines Idle Ran Not asked left statuses.OtherProblem text =
    AreFaultLines Not asked.bounds.boxed left statuses.OtherProblem text
AreFileLines Idle Ran Not asked left statuses.BadImage text =
    AreFaultLines Not asked.bounds.boxed left statuses.BadImage text
AreFileLines Idle Ran Not asked left statuses.Spent text =
    AreFaultLines Not asked.bounds.boxed left statuses.Spent text
AreFileLines Idle Ran Not asked left statuses.SmallerGap text =
    AreFaultLines Not asked.bounds.boxed left statuses.SmallerGap text
AreFileLines Idle Ran Not asked left status text = ⊥

-- a new solve without a checkpoint: the disk is left alone, and nothing keeps it from beginning
pub record HasRunAlone (by : Crewed) (asked : Asked) (old new : DiskSeen) (p : Instance)
    (outcome : Outcome) : Type 0 where
  pub ran : IsNewRun by p (settings_for asked p) outcome
  pub untouched : IsUntouched outcome old new

abbrev pub BeginsAlways : Instance → StartFault → Type 0
BeginsAlways p fault = ⊥

-- a new solve with a checkpoint
abbrev pub HasRunSaved : Crewed → Asked → DiskSeen → DiskSeen → Instance → Outcome → Type 0
HasRunSaved by asked old new p outcome =
    IsSavedRun by p (settings_for asked p) outcome old new

-- it does not begin
abbrev pub HasNotBegun : Crewed → Asked → DiskSeen → DiskSeen → Instance → StartFault → Type 0
HasNotBegun by asked old new p fault =
    IsNoSavedRun by p (settings_for asked p) old new fault

-- a run that resumes from the checkpoint
abbrev pub HasRunOn : Crewed → Asked → DiskSeen → DiskSeen → Instance → Outcome → Type 0
HasRunOn by asked old new p outcome =
    IsRunOn by p (settings_for asked p) outcome old new

-- it does not resume
abbrev pub HasNotGoneOn : Crewed → Asked → DiskSeen → DiskSeen → Instance → StartFault → Type 0
HasNotGoneOn by asked old new p fault = IsNoRunOn by p (settings_for asked p) old new fault

-- the crew as it was and as it is
abbrev pub crews_at : Outside → Outside → Crewed
crews_at old new = record { was = old.crew; now = new.crew }

-- no solver was started, and nothing was saved
pub record IsIdleSince (old new : Outside) : Type 0 where
  pub crew : new.crew ≡ old.crew
  pub disk : new.disk ≡ old.disk

-- how a solve ends, where a checkpoint is kept and where none is
abbrev pub AreSolveLines : {A : Type 0} → Option A → Asked → Outside → Outside → Status → List ℕ
    → Type 0
AreSolveLines None asked old new status text =
    AreFileLines (IsIdleSince old new) (HasRunAlone (crews_at old new) asked old.disk new.disk) BeginsAlways asked
    old.source.left status text
AreSolveLines (Some folder) asked old new status text =
    AreFileLines (IsIdleSince old new) (HasRunSaved (crews_at old new) asked old.disk new.disk)
    (HasNotBegun (crews_at old new) asked old.disk new.disk) asked old.source.left status text

-- how a restart ends
abbrev pub AreRestartLines : Asked → Outside → Outside → Status → List ℕ → Type 0
AreRestartLines asked old new status text =
    AreFileLines (IsIdleSince old new) (HasRunOn (crews_at old new) asked old.disk new.disk)
    (HasNotGoneOn (crews_at old new) asked old.disk new.disk) asked old.source.left status text

-- ---- a checkpoint

-- what recovery finds is shown, and no call of the disk failed
pub record IsShown (old new : DiskSeen) (text : List ℕ) : Type 0 where
  pub found : Found
  pub has : HasFound old.told new.told (Some found)
  pub calm : new.faults ≡ old.faults
  pub lines : AreCheckpointLines found.image text

-- the first slot that is open and spells no image is named
pub record IsBadShown (old new : DiskSeen) (text : List ℕ) : Type 0 where
  pub slot : Slot
  pub at : ℕ
  pub bad : Loaded (λ zero one. IsFirstBadSlot zero one slot at) old.told new.told
  pub is : text ≡ fault_line (faults.BadImage slot at)

-- how a show ends
abbrev pub AreShowLines : DiskSeen → DiskSeen → Status → List ℕ → Type 0
AreShowLines old new statuses.Answered text = IsShown old new text
AreShowLines old new statuses.NoCheckpoint text =
    HasFound old.told new.told None × (text ≡ fault_line faults.NoCheckpoint)
AreShowLines old new statuses.BadImage text = IsBadShown old new text
AreShowLines old new statuses.DiskFault text = text ≡ fault_line faults.DiskFault
AreShowLines old new statuses.Memory text = text ≡ memory_line
AreShowLines old new status text = ⊥

-- ---- faults

-- the disk was not asked, or none of its calls failed
abbrev pub IsCalmFor : Status → Type 0
IsCalmFor statuses.Usage = Unit {0}
IsCalmFor statuses.Refused = Unit {0}
IsCalmFor statuses.ReadFault = Unit {0}
IsCalmFor statuses.WriteFault = Unit {0}
IsCalmFor statuses.NoCheckpoint = Unit {0}
IsCalmFor statuses.OtherProblem = Unit {0}
IsCalmFor statuses.BadImage = Unit {0}
IsCalmFor statuses.Spent = Unit {0}
IsCalmFor statuses.SmallerGap = Unit {0}
IsCalmFor statuses.LinkFault = Unit {0}
IsCalmFor statuses.BadFrame = Unit {0}
IsCalmFor status = ⊥

-- no text was read, so the disk is not asked
abbrev pub IsUnreadFor : Status → Type 0
IsUnreadFor statuses.Refused = Unit {0}
IsUnreadFor statuses.ReadFault = Unit {0}
IsUnreadFor statuses.LinkFault = Unit {0}
IsUnreadFor statuses.BadFrame = Unit {0}
IsUnreadFor status = ⊥

-- The count of the disk's faults does not fall. A disk fault is reported only if it rose, and it
-- did not if a run was refused for another cause. If no file was read the slots are as they were.
-- The parts of the disk that stay Covered at each moment are stated too.
pub record IsStored (Keeps : Type 0) (old new : DiskSeen) (status : Status) : Type 0 where
  pub rises : old.faults ≤ new.faults
  pub fault : status ≡ statuses.DiskFault → Rose old.faults new.faults
  pub calm : IsCalmFor status → new.faults ≡ old.faults
  pub unread : IsUnreadFor status → new.told ≡ old.told
  pub any_moment : Keeps

-- The count of the source's faults does not fall, and a read fault is reported exactly where it
-- rose.
pub record IsReadAs (old new : SourceSeen) (status : Status) : Type 0 where
  pub rises : old.faults ≤ new.faults
  pub fault : status ≡ statuses.ReadFault → Rose old.faults new.faults
  pub source : old.faults < new.faults → status ≡ statuses.ReadFault

pub record IsAccounted (Keeps : Type 0) (old new : Outside) (status : Status) : Type 0 where
  pub read : IsReadAs old.source new.source status
  pub stored : IsStored Keeps old.disk new.disk status

-- ---- a made instance

-- a run of the made instance ended with this outcome, and the first line of its end is printed
pub record IsMadeRun (gen : Gen) (old new : DiskSeen) (status : Status) (text : List ℕ)
    : Type 0 where
  pub outcome : Outcome
  pub ran : IsNewRun (unchanged None) (instance gen.seed gen.size) (settings_made gen.solvers)
      outcome
  pub untouched : IsUntouched outcome old new
  pub line : IsEndLine outcome.end status text

-- how a run of a made instance ends
abbrev pub AreGenLines : Gen → DiskSeen → DiskSeen → Status → List ℕ → Type 0
AreGenLines gen old new statuses.Answered text =
    IsMadeRun gen old new statuses.Answered text
AreGenLines gen old new statuses.Limited text =
    IsMadeRun gen old new statuses.Limited text
AreGenLines gen old new statuses.Memory text = text ≡ memory_line
AreGenLines gen old new status text = ⊥

-- ---- a solver at a link

-- its service ended so
abbrev pub IsServed : Option LinkSeen → Served → Type 0
IsServed link end = IsSomeAnd link (λ seen. HasServed seen end)

-- from some place on what came is no order, or none that is due
pub record HasMetBad (link : Option LinkSeen) : Type 0 where
  pub at : ℕ
  pub is : IsServed link (service.BadFrame at)

-- how a service ends: nothing is printed
abbrev pub AreWorkerLines : Option LinkSeen → Status → List ℕ → Type 0
AreWorkerLines link statuses.Answered text = IsServed link service.Ended × (text ≡ [])
AreWorkerLines link statuses.LinkFault text = IsServed link service.LinkFault × (text ≡ [])
AreWorkerLines link statuses.BadFrame text = HasMetBad link × (text ≡ [])
AreWorkerLines link statuses.Memory text = text ≡ []
AreWorkerLines link status text = ⊥

-- the status is this, unless memory ran out
abbrev pub IsOrWants : Status → Status → Type 0
IsOrWants status due = (status ≡ due) ⊎ (status ≡ statuses.Memory)

-- The link at the end shows the status: a link fault if a call of it failed or it has ended. And if
-- it shows its bytes: a bad frame if the bytes from some place on are not an order that is due, and
-- 0 if Ended was sent.
pub record ShowsStatus (seen : LinkSeen) (status : Status) : Type 0 where
  pub fault : IsLost seen → IsOrWants status statuses.LinkFault
  pub bad : IsSome seen.said → (at : ℕ) → HasServed seen (service.BadFrame at)
      → IsOrWants status statuses.BadFrame
  pub ended : IsSome seen.said → HasServed seen service.Ended → IsOrWants status statuses.Answered

-- ---- any plan

-- what each plan asks for
abbrev pub AreLinesOf : Plan → Outside → Outside → Status → List ℕ → Type 0
AreLinesOf (plans.Solve solve) old new status text =
    AreSolveLines solve.checkpoint solve.settings old new status text
AreLinesOf (plans.Restart restart) old new status text =
    AreRestartLines restart.settings old new status text
AreLinesOf (plans.Worker worker) old new status text =
    AreWorkerLines new.link status text
AreLinesOf (plans.Show show) old new status text =
    AreShowLines old.disk new.disk status text
AreLinesOf (plans.Gen gen) old new status text =
    AreGenLines gen old.disk new.disk status text

-- it asks for no checkpoint
abbrev pub IsDiskless : Plan → Type 0
IsDiskless (plans.Solve solve) = solve.checkpoint ≡ None
IsDiskless (plans.Restart restart) = ⊥
IsDiskless (plans.Worker worker) = Unit {0}
IsDiskless (plans.Show show) = ⊥
IsDiskless (plans.Gen gen) = Unit {0}

-- the disk is as it was, and none of its calls failed
pub record IsLeftAlone (old new : DiskSeen) : Type 0 where
  pub same : new.told ≡ old.told
  pub calm : new.faults ≡ old.faults

-- its numbers are within their limits
abbrev pub IsPlannedOf : Plan → Type 0
IsPlannedOf (plans.Solve solve) = IsPlanned solve.settings
IsPlannedOf (plans.Restart restart) = IsPlanned restart.settings
IsPlannedOf (plans.Worker worker) = Unit {0}
IsPlannedOf (plans.Show show) = Unit {0}
IsPlannedOf (plans.Gen gen) = IsPlannedGen gen

-- a crew of this many solvers is there, where one is needed, and none lives yet
abbrev pub HasCrewFor : Option ℕ → Option CrewSeen → Type 0
HasCrewFor None None = Unit {0}
HasCrewFor None (Some seen) = ⊥
HasCrewFor (Some solvers) None = ⊥
HasCrewFor (Some solvers) (Some seen) = crews.IsFresh seen solvers

-- a link is there, where one is needed, and nothing was said over it
abbrev pub HasLinkFor : Bool → Option LinkSeen → Type 0
HasLinkFor false link = Unit {0}
HasLinkFor true link = IsSomeAnd link links.IsFresh

-- what a plan needs is there
pub record HasNeeds (plan : Plan) (now : Outside) : Type 0 where
  pub crew : HasCrewFor (needs_of plan).crew now.crew
  pub link : HasLinkFor (needs_of plan).link now.link

-- the words ask for the plan, or for none where there is none
abbrev pub IsPlanOf : List Text → Option Plan → Type 0
IsPlanOf words None = (plan : Plan) → TakenWords words plan → ⊥
IsPlanOf words (Some plan) = TakenWords words plan
