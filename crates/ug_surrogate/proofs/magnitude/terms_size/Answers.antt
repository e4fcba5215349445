use Rattle.std.proofs.Common.{length, arith}
use Rattle.ug_rows.proofs.SumLemmas.{few_terms}
use Rattle.ug_surrogate.proofs.magnitude.terms_size.Goals as goal

pub overflow_add-total : goal.overflow_add-total
overflow_add-total c =
    omega (arith, few_terms (length c.args.area.now) c.args.terms.now c.requires, c.loop-term.invariant.small, c.term_size-total.ensures.small)

pub returns-clause-small : goal.returns-clause-small
returns-clause-small c =
    omega (arith, few_terms (length c.args.area.now) c.args.terms.now c.requires, c.loop-term.invariant.small)
