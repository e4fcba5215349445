use Rattle.ug_drafts.proofs.MadeLemmas.{IsNegatedTo}
use Rattle.ug_drafts.proofs.made.negate.Given as goal

abbrev pub invariant-loop-term : goal.invariant-loop-term
invariant-loop-term l = IsNegatedTo l.initial.terms l.term-index l.terms
