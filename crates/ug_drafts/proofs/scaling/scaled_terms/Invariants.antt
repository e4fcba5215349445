use Rattle.ug_drafts.proofs.ScalingLemmas.{AreNarrowSoFar}
use Rattle.ug_drafts.proofs.scaling.scaled_terms.Given as goal

abbrev pub invariant-loop-term : goal.invariant-loop-term
invariant-loop-term l = AreNarrowSoFar l.scale l.terms l.term-index l.made.items
