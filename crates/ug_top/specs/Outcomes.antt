-- How a command ends whose run ended, or did not begin.
use Rattle.std.specs.Prelude.{◌≡◌, ◌⊎◌, ℕ, List, Option, None, IfSome, option_map}
use Rattle.ug_restart.specs.declared.fault.StartFault.{StartFault}
use Rattle.ug_restart.specs.declared.outcome.Outcome.{Outcome}
use Rattle.ug_image.specs.declared.image.Image.{Image}
use Rattle.ug_print.specs.Faults.{fault_line}
use Rattle.ug_print.specs.Checkpoints.{AreCheckpointLines}
use Rattle.ug_top.specs.declared.status.Status.TheVariants as statuses
use Rattle.ug_top.specs.declared.ended.Ended.{Ended}
use Rattle.ug_top.specs.declared.ended.Ended.TheVariants.{Lines, Memory}
use Rattle.ug_print.specs.Limited.{best_lines}
use Rattle.ug_top.specs.declared.status.Status.{Status}
use Rattle.ug_top.specs.Lines.{AreOutcomeLines, IsEndLine, IsLeftPoint, status_of_fault}

-- the lines of the outcome are printed, and the best point is its incumbent; or memory ran out
pub record IsPrinted (gap : ℕ) (outcome : Outcome) (status : Status) (text : List ℕ)
    (point : Option (List ℕ)) : Type 0 where
  pub lines : AreOutcomeLines gap outcome status text
  pub best : IfSome point (IsLeftPoint outcome.end)

abbrev pub TellsOutcome : ℕ → Outcome → Ended → Type 0
TellsOutcome gap outcome (Lines status text best) = IsPrinted gap outcome status text.items (option_map (λ v. v.items) best)
TellsOutcome gap outcome Memory = Unit {0}
TellsOutcome gap outcome ended = ⊥

-- the first line of the outcome's end is printed, or memory ran out
abbrev pub TellsEnd : Outcome → Ended → Type 0
TellsEnd outcome (Lines status text best) =
    IsEndLine outcome.end status text.items × (best ≡ None)
TellsEnd outcome Memory = Unit {0}
TellsEnd outcome ended = ⊥

-- the fault is reported, or memory ran out
abbrev pub TellsFault : StartFault → Ended → Type 0
TellsFault fault (Lines status text best) =
    (status ≡ status_of_fault fault) × (text.items ≡ fault_line fault) × (best ≡ None)
TellsFault fault Memory = Unit {0}
TellsFault fault ended = ⊥

-- an outcome that Ran holds of is printed, or a fault that Not holds of; if memory ran out, there
-- is one that is not printed
abbrev pub TellsRun : (Outcome → Type 0) → (StartFault → Type 0) → ℕ → Ended → Type 0
TellsRun Ran Not gap (Lines status text best) =
    ((outcome : Outcome) × Ran outcome × IsPrinted gap outcome status text.items (option_map (λ v. v.items) best))
    ⊎ ((fault : StartFault) × Not fault × TellsFault fault (Lines status text best))
TellsRun Ran Not gap Memory = ((outcome : Outcome) × Ran outcome) ⊎ ((fault : StartFault) × Not fault)
TellsRun Ran Not gap ended = ⊥

-- the checkpoint is printed, or memory ran out
abbrev pub TellsImage : Image → Ended → Type 0
TellsImage image (Lines status text best) =
    (status ≡ statuses.Answered) × AreCheckpointLines image text.items
    × IfSome best (λ v. v.items ≡ best_lines image.problem image.best)
TellsImage image Memory = Unit {0}
TellsImage image ended = ⊥
