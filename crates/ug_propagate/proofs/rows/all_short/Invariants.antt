use Rattle.ug_propagate.specs.Working.{AreFirstShort}
use Rattle.ug_propagate.proofs.rows.all_short.Given as goal

abbrev pub invariant-loop-r : goal.invariant-loop-r
invariant-loop-r l = AreFirstShort l.problem l.area l.r l.sums.items l.max_span.items
