use Rattle.std.proofs.Common.{length}
use Rattle.ug_mps.proofs.again.drafted.Given as goal

abbrev pub decreases-loop-rest : goal.decreases-loop-rest
decreases-loop-rest l = length l.rest
