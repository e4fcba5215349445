use Rattle.std.proofs.Common.{length}
use Rattle.ug_mps.specs.Reading.{IsReading}
use Rattle.ug_mps.proofs.reading.read.Given as goal

abbrev pub invariant-loop-rest : goal.invariant-loop-rest
invariant-loop-rest l = IsReading l.text l.rest l.lines l.draft

abbrev pub decreases-loop-rest : goal.decreases-loop-rest
decreases-loop-rest l = length l.rest
