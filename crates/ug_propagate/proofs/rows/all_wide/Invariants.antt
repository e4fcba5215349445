use Rattle.ug_propagate.specs.Working.{AreFirstWide}
use Rattle.ug_propagate.proofs.rows.all_wide.Given as goal

abbrev pub invariant-loop-r : goal.invariant-loop-r
invariant-loop-r l = AreFirstWide l.problem l.area l.r l.sums.items l.max_span.items
