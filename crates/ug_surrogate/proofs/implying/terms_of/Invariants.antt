use Rattle.ug_surrogate.specs.Implied.{AreColumnsBelow}
use Rattle.ug_surrogate.proofs.implying.terms_of.Given as goal

abbrev pub invariant-loop-column : goal.invariant-loop-column
invariant-loop-column l = AreColumnsBelow l.problem l.m l.column l.terms.items
