use Rattle.std.proofs.Common.{◌≡◌, [], ◌++◌, length}
use Rattle.ug_records.specs.Rests.{rest_at}
use Rattle.ug_records.specs.Spelling.{record_of}
use Rattle.ug_records.proofs.writing.to_record.Given as goal

abbrev pub invariant-loop-stage : goal.invariant-loop-stage
invariant-loop-stage l =
    (record_of l.problem ≡ l.out.items ++ (l.line ++ rest_at l.problem l.stage))
    × (l.line ≡ [] → rest_at l.problem l.stage ≡ [])

abbrev pub decreases-loop-stage : goal.decreases-loop-stage
decreases-loop-stage l = length (l.line ++ rest_at l.problem l.stage)
