use Rattle.std.proofs.Common.{length, arith}
use Rattle.ug_rows.proofs.SumLemmas.{few_terms}
use Rattle.ug_rows.proofs.sums.sum.Goals as goal

pub add_product-total-requires-clause-total : goal.add_product-total-requires-clause-total
add_product-total-requires-clause-total c =
    omega (arith, few_terms (length c.args.values.now) c.args.terms.now c.requires, c.loop-term.invariant.small)

pub returns-clause-small : goal.returns-clause-small
returns-clause-small c =
    omega (arith, few_terms (length c.args.values.now) c.args.terms.now c.requires, c.loop-term.invariant.small)
