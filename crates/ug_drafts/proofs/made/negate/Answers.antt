use Rattle.ug_drafts.proofs.MadeLemmas.{negated_all}
use Rattle.ug_drafts.proofs.made.negate.Goals as goal

pub returns : goal.returns
returns c = negated_all c.args.terms.now c.loop-term.terms c.loop-term.term-index c.loop-term-test.false c.loop-term.invariant
