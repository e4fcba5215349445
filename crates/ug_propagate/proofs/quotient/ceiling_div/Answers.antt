use Rattle.std.proofs.Common.{ℤ, neg_ℤ, FitsSigned, ap, arith, rules}
use Rattle.std.proofs.lemmas.Int.{to_z-of_z}
use mir.Syntax.{w128}
use Rattle.ug_propagate.proofs.Words.{abs_negated, negated_fits, word_negated}
use Rattle.ug_propagate.proofs.quotient.ceiling_div.Goals as goal

pub overflow_sub-number : goal.overflow_sub-number
overflow_sub-number c = rw (to_z-of_z w128 c.args.number c.ranges.number) (negated_fits c.args.number c.requires.number)

pub floor_div-requires-clause-number : goal.floor_div-requires-clause-number
floor_div-requires-clause-number c =
    rw (word_negated c.args.number c.requires.number) (omega (arith, abs_negated c.args.number, c.requires.number))

pub overflow_sub-result : goal.overflow_sub-result
overflow_sub-result c =
    let fits : FitsSigned w128 c.floor_div.result = search rules in
    rw (to_z-of_z w128 c.floor_div.result fits) (negated_fits c.floor_div.result c.floor_div.ensures.small)

pub returns-clause-value : goal.returns-clause-value
returns-clause-value c =
    rw (word_negated c.floor_div.result c.floor_div.ensures.small)
    (ap (λ (v : ℤ). neg_ℤ v)
    (rw (word_negated c.args.number c.requires.number, to_z-of_z w128 c.args.divisor c.ranges.divisor) at c.floor_div.ensures.value))

pub returns-clause-small : goal.returns-clause-small
returns-clause-small c =
    rw (word_negated c.floor_div.result c.floor_div.ensures.small)
    (omega (arith, abs_negated c.floor_div.result, c.floor_div.ensures.small))
