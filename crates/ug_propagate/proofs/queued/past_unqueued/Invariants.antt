use Rattle.std.proofs.Common.{◌+◌, ◌*◌}
use Rattle.ug_propagate.specs.Queued.{AreUnqueued}
use Rattle.ug_propagate.proofs.queued.past_unqueued.Given as goal

abbrev pub invariant-loop-k : goal.invariant-loop-k
invariant-loop-k l = AreUnqueued l.words (64 * l.from) (64 * (l.from + 4 * l.k))
