use Rattle.ug_propagate.specs.Working.{AreFirstMaxSpans}
use Rattle.ug_propagate.proofs.working.all_max_spans.Given as goal

abbrev pub invariant-loop-r : goal.invariant-loop-r
invariant-loop-r l = AreFirstMaxSpans l.problem l.area l.r l.max_span.items
