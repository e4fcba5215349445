use Rattle.ug_base.proofs.Over.{AreUnsettledTo}
use Rattle.ug_base.proofs.open_boxes.unsettle_all.Given as goal

abbrev pub invariant-loop-k : goal.invariant-loop-k
invariant-loop-k l = AreUnsettledTo l.k l.initial.kept.items l.kept.items
