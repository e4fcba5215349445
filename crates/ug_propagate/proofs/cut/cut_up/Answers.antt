use Rattle.std.proofs.Common.{◌∙◌, ℤ, FitsSigned, ap, arith, rules}
use Rattle.std.proofs.lemmas.Int.{to_z-of_z}
use mir.Syntax.{w128}
use Rattle.ug_propagate.proofs.Machine.{slack_plus, slack_same, wider}
use Rattle.ug_propagate.specs.Rounds.{keep_at_most}
use Rattle.ug_rows.specs.declared.sums.Extreme.TheVariants.{Least}
use Rattle.ug_propagate.proofs.Nearing.{closed_near, least_taken}
use Rattle.ug_propagate.proofs.cut.cut_up.Goals as goal

pub returns-clause-value : goal.returns-clause-value
returns-clause-value c =
    c.cut_at_most.ensures.value
    ∙ ap (λ (v : ℤ). keep_at_most c.args.reason c.args.term.factor c.args.term.column v c.args.area.now)
    (slack_plus c.plus-most.result c.args.slack c.product.result _ c.requires.slack
    (wider c.product.result c.product.ensures.small) c.plus-most.ensures.value c.product.ensures.value)

pub plus-most-requires : goal.plus-most-requires
plus-most-requires c =
    let fits : FitsSigned w128 c.product.result = search rules in
    rw (to_z-of_z w128 c.product.result fits, slack_same c.args.slack c.requires.slack)
    (omega (arith, c.product.ensures.small, c.requires.slack))

pub cut_at_most-requires-clause-most : goal.cut_at_most-requires-clause-most
cut_at_most-requires-clause-most c =
    let fits : FitsSigned w128 c.product.result = search rules in
    let fits_most : FitsSigned w128 c.plus-most.result = search rules in
    let small = rw (to_z-of_z w128 c.product.result fits, slack_same c.args.slack c.requires.slack) at c.plus-most.ensures.small in
    rw (to_z-of_z w128 c.plus-most.result fits_most)
    (omega (arith, small, c.product.ensures.small, c.requires.slack))

pub returns-in-Some-clause-value : goal.returns-in-Some-clause-value
returns-in-Some-clause-value c =
    least_taken c.args.reason c.args.term.factor _ c.args.slack _ c.unsigned_abs.result c.args.term.column
    c.in-Some.steps c.args.area.now c.near.result c.requires.term.nonzero
    (slack_same c.args.term.factor (omega (arith, c.requires.term.small))) (slack_same c.args.slack c.requires.slack)
    c.unsigned_abs.ensures.value c.in-Some.ensures c.near.ensures

pub returns-in-Some-clause-inner : goal.returns-in-Some-clause-inner
returns-in-Some-clause-inner c = closed_near Least _ _ c.near.result c.in-Some.steps c.in-Some.ensures.few c.near.ensures
