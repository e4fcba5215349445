use Rattle.std.proofs.Common.{length}
use Rattle.ug_measure.proofs.replay.replies.settle.Given as goal

abbrev pub decreases-loop-told : goal.decreases-loop-told
decreases-loop-told l = length l.book.orders
