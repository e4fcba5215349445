use Rattle.std.proofs.Common.{◌*◌}
use Rattle.ug_propagate.specs.Queued.{AreUnqueued}
use Rattle.ug_propagate.proofs.queued.first_from.Given as goal

abbrev pub invariant-loop-at : goal.invariant-loop-at
invariant-loop-at l = AreUnqueued l.words (64 * l.from) (64 * l.at)
