use Rattle.std.proofs.Common.{◌∙◌, ℤ, ◌-ℤ◌, FitsSigned, ap, arith, rules}
use Rattle.std.proofs.lemmas.Int.{to_z-of_z}
use mir.Syntax.{w128}
use Rattle.ug_rows.proofs.Products.{abs_sub}
use Rattle.ug_propagate.proofs.Words.{difference_fits}
use Rattle.ug_propagate.proofs.row_spec.less_others.Goals as goal

pub overflow_sub-result : goal.overflow_sub-result
overflow_sub-result c =
    let others = c.ends_of_others.result in
    let fits : FitsSigned w128 others = search rules in
    rw (to_z-of_z w128 c.args.side c.ranges.side, to_z-of_z w128 others fits)
    (difference_fits c.args.side others (omega (arith, c.requires.side, c.ends_of_others.ensures.small)))

pub returns-clause-value : goal.returns-clause-value
returns-clause-value c =
    let others = c.ends_of_others.result in
    let fits : FitsSigned w128 others = search rules in
    let whole = difference_fits c.args.side others (omega (arith, c.requires.side, c.ends_of_others.ensures.small)) in
    rw (to_z-of_z w128 c.args.side c.ranges.side, to_z-of_z w128 others fits)
    (to_z-of_z w128 (c.args.side -ℤ others) whole ∙ ap (λ (v : ℤ). c.args.side -ℤ v) c.ends_of_others.ensures.value)

pub returns-clause-small : goal.returns-clause-small
returns-clause-small c =
    let others = c.ends_of_others.result in
    let fits : FitsSigned w128 others = search rules in
    let whole = difference_fits c.args.side others (omega (arith, c.requires.side, c.ends_of_others.ensures.small)) in
    rw (to_z-of_z w128 c.args.side c.ranges.side, to_z-of_z w128 others fits, to_z-of_z w128 (c.args.side -ℤ others) whole)
    (omega (arith, abs_sub c.args.side others, c.requires.side, c.ends_of_others.ensures.small))
