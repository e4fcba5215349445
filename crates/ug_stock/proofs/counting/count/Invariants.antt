use Rattle.ug_stock.proofs.Counted.{AreCountedTo}
use Rattle.ug_stock.proofs.counting.count.Given as goal

abbrev pub invariant-loop-state : goal.invariant-loop-state
invariant-loop-state l = AreCountedTo l.state-index l.state-items l.counts
