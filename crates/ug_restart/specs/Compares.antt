-- What comparing two problems answers.
use Rattle.std.specs.Prelude.{List, ℕ}
use Rattle.ug_problem.specs.Instances.{Instance}
use Rattle.ug_records.specs.Spelling.{record_of}
use Rattle.ug_restart.specs.Starts.{IsFirstDifference}
use Rattle.ug_restart.specs.declared.compare.Difference.{Difference}
use Rattle.ug_restart.specs.declared.fault.StartFault.{StartFault}
use Rattle.ug_restart.specs.declared.fault.StartFault.TheVariants.{Memory}
use Rattle.ug_restart.specs.declared.fault.StartFault.TheVariants.{OtherProblem}

-- the place at which they differ
abbrev pub IsDifference : List ℕ → List ℕ → Difference → Type 0
IsDifference a b d = IsFirstDifference a b d.at d.kept d.read

-- the records differ there, if it is not for memory
abbrev pub IsOther : Instance → Instance → StartFault → Type 0
IsOther kept read Memory = Unit {0}
IsOther kept read (OtherProblem at a b) =
    IsFirstDifference (record_of kept) (record_of read) at a b
IsOther kept read fault = ⊥
