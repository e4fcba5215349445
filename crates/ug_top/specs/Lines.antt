-- The result of a run, as it is printed.
use Rattle.std.specs.Prelude.{◌≡◌, ℕ, List, ◌++◌, Option, IfSome}
use Rattle.ug_problem.specs.Instances.{Instance}
use Rattle.ug_problem.specs.Right.{answer_of}
use Rattle.ug_drafts.specs.declared.fault.MpsFault.{MpsFault}
use Rattle.ug_mps.specs.Reads.{Reads, FirstFault}
use Rattle.ug_restart.specs.declared.fault.StartFault.{StartFault}
use Rattle.ug_restart.specs.declared.fault.StartFault.TheVariants as faults
use Rattle.ug_restart.specs.declared.outcome.End.{End}
use Rattle.ug_restart.specs.declared.outcome.End.TheVariants as ends
use Rattle.ug_restart.specs.declared.outcome.Outcome.{Outcome}
use Rattle.ug_print.specs.Answers.{AreAnswerLines, IsAnswerLine}
use Rattle.ug_print.specs.Limited.{IsOpenLine, IsStrandedLine, best_lines, count_lines}
use Rattle.ug_print.specs.Faults.{fault_line}
use Rattle.ug_print.specs.Refusals.{refused_line}
use Rattle.ug_top.specs.declared.status.Status.{Status}
use Rattle.ug_top.specs.declared.status.Status.TheVariants as statuses

-- the exit status
abbrev pub code_of : Status → ℕ
code_of statuses.Answered = 0
code_of statuses.Usage = 2
code_of statuses.Refused = 3
code_of statuses.ReadFault = 4
code_of statuses.WriteFault = 5
code_of statuses.DiskFault = 6
code_of statuses.Stranded = 7
code_of statuses.Limited = 8
code_of statuses.Memory = 9
code_of statuses.NoCheckpoint = 10
code_of statuses.OtherProblem = 11
code_of statuses.BadImage = 12
code_of statuses.LinkFault = 13
code_of statuses.BadFrame = 14
code_of statuses.Spent = 15
code_of statuses.SmallerGap = 16

-- the status of a run that does not begin
abbrev pub status_of_fault : StartFault → Status
status_of_fault faults.Memory = statuses.Memory
status_of_fault faults.DiskFault = statuses.DiskFault
status_of_fault (faults.BadImage slot at) = statuses.BadImage
status_of_fault faults.NoCheckpoint = statuses.NoCheckpoint
status_of_fault (faults.OtherProblem at kept read) = statuses.OtherProblem
status_of_fault (faults.SmallerGap kept asked) = statuses.SmallerGap
status_of_fault faults.Spent = statuses.Spent

-- the status and the first lines of a run that ended with a book, under the gap as it was asked for
abbrev pub AreEndLines : ℕ → End → Status → List ℕ → Type 0
AreEndLines gap (ends.Answered b) status text =
    (status ≡ statuses.Answered) × AreAnswerLines gap b.problem (answer_of b.best) text
AreEndLines gap (ends.Limited b) status text = (status ≡ statuses.Limited) × IsOpenLine b text
AreEndLines gap (ends.Stranded b) status text = (status ≡ statuses.Stranded) × IsStrandedLine b text
AreEndLines gap ends.Memory status text = ⊥

-- the lines of the incumbent of a run that may continue
abbrev pub IsLeftPoint : End → List ℕ → Type 0
IsLeftPoint (ends.Answered b) text = ⊥
IsLeftPoint (ends.Limited b) text = text ≡ best_lines b.problem b.best
IsLeftPoint (ends.Stranded b) text = text ≡ best_lines b.problem b.best
IsLeftPoint ends.Memory text = ⊥

-- the status and the first line of a run that ended with a book, without a gap
abbrev pub IsEndLine : End → Status → List ℕ → Type 0
IsEndLine (ends.Answered b) status text =
    (status ≡ statuses.Answered) × IsAnswerLine 0 b.problem (answer_of b.best) text
IsEndLine (ends.Limited b) status text = (status ≡ statuses.Limited) × IsOpenLine b text
IsEndLine (ends.Stranded b) status text = ⊥
IsEndLine ends.Memory status text = ⊥

-- the status and the lines of a run: those of its end, and the saves that are counted
pub record AreOutcomeLines (gap : ℕ) (outcome : Outcome) (status : Status) (text : List ℕ)
    : Type 0 where
  pub first : List ℕ
  pub end : AreEndLines gap outcome.end status first
  pub is : text ≡ first ++ count_lines outcome.missed outcome.unsaved

-- the source states the problem under the box, where its bytes are known
abbrev pub States : Option (List ℕ) → Option ℕ → Instance → Type 0
States left boxed p = IfSome left (λ bytes. Reads bytes boxed p)

-- the line of the first fault of the bytes under the box, where they are known
pub record IsRefusedLine (boxed : Option ℕ) (left : Option (List ℕ)) (text : List ℕ) : Type 0 where
  pub fault : MpsFault
  pub first : IfSome left (λ bytes. FirstFault bytes boxed fault)
  pub is : text ≡ refused_line fault

-- this is the number of the line of the first fault, where the bytes are known
pub record IsFaultLine (boxed : Option ℕ) (left : Option (List ℕ)) (line : ℕ) : Type 0 where
  pub fault : MpsFault
  pub first : IfSome left (λ bytes. FirstFault bytes boxed fault)
  pub is : line ≡ fault.line

-- a run of the problem that the source states ended with this outcome, which Ran holds of
pub record AreRunLines (Ran : Instance → Outcome → Type 0) (gap : ℕ) (boxed : Option ℕ)
    (left : Option (List ℕ)) (status : Status) (text : List ℕ) : Type 0 where
  pub problem : Instance
  pub states : States left boxed problem
  pub outcome : Outcome
  pub ran : Ran problem outcome
  pub lines : AreOutcomeLines gap outcome status text

-- a run of the problem that the source states does not begin, for this fault, which Not holds of
pub record AreFaultLines (Not : Instance → StartFault → Type 0) (boxed : Option ℕ)
    (left : Option (List ℕ)) (status : Status) (text : List ℕ) : Type 0 where
  pub problem : Instance
  pub states : States left boxed problem
  pub fault : StartFault
  pub not : Not problem fault
  pub its_status : status ≡ status_of_fault fault
  pub is : text ≡ fault_line fault
