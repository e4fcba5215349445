-- What a reader answers.
use Rattle.std.specs.Prelude.{◌≡◌, ℕ, ◌-◌, ◌≤◌, List, length, Err}
use Rattle.ug_problem.specs.Instances.{Instance}
use Rattle.ug_problem.specs.Limits.{IsProblem}
use Rattle.ug_records.specs.Reading.{record_at}
use Rattle.ug_records.specs.Spelling.{record_of}
use Rattle.ug_records.specs.declared.error.RecordError.{RecordError}
use Rattle.ug_records.specs.declared.error.RecordError.TheVariants.{Memory, BadRecord}

-- the bytes are the record of this problem
abbrev pub IsRecordOf : List ℕ → Instance → Type 0
IsRecordOf bytes p = IsProblem p × (bytes ≡ record_of p)

-- read from left to right, the first field that is cut short or breaks a rule begins there
abbrev pub IsFirstBad : List ℕ → ℕ → Type 0
IsFirstBad bytes at = (at ≤ length bytes) × (record_at bytes ≡ Err (length bytes - at))

-- why the bytes are refused, if it is not for memory: they are the record of no problem, and the
-- first bad field begins there
abbrev pub IsRefused : List ℕ → RecordError → Type 0
IsRefused bytes Memory = Unit {0}
IsRefused bytes (BadRecord at) = IsFirstBad bytes at × ((p : Instance) → ¬ IsRecordOf bytes p)
