use Rattle.std.proofs.Common.{◌∙◌, ℤ, FitsSigned, ap, arith, rules}
use Rattle.std.proofs.lemmas.Int.{to_z-of_z}
use mir.Syntax.{w128}
use Rattle.ug_propagate.proofs.Machine.{slack_same, span_minus, wider}
use Rattle.ug_propagate.specs.Rounds.{keep_at_least}
use Rattle.ug_rows.specs.declared.sums.Extreme.TheVariants.{Greatest}
use Rattle.ug_propagate.proofs.Nearing.{closed_near, greatest_taken}
use Rattle.ug_propagate.proofs.cut.cut_down.Goals as goal

pub returns-clause-value : goal.returns-clause-value
returns-clause-value c =
    c.cut_at_least.ensures.value
    ∙ ap (λ (v : ℤ). keep_at_least c.args.reason c.args.term.factor c.args.term.column v c.args.area.now)
    (span_minus c.minus-least.result c.product.result c.args.slack _ (wider c.product.result c.product.ensures.small)
    c.requires.slack c.minus-least.ensures.value c.product.ensures.value)

pub minus-least-requires : goal.minus-least-requires
minus-least-requires c =
    let fits : FitsSigned w128 c.product.result = search rules in
    rw (to_z-of_z w128 c.product.result fits, slack_same c.args.slack c.requires.slack)
    (omega (arith, c.product.ensures.small, c.requires.slack))

pub cut_at_least-requires-clause-least : goal.cut_at_least-requires-clause-least
cut_at_least-requires-clause-least c =
    let fits : FitsSigned w128 c.product.result = search rules in
    let fits_least : FitsSigned w128 c.minus-least.result = search rules in
    let small = rw (to_z-of_z w128 c.product.result fits, slack_same c.args.slack c.requires.slack) at c.minus-least.ensures.small in
    rw (to_z-of_z w128 c.minus-least.result fits_least)
    (omega (arith, small, c.product.ensures.small, c.requires.slack))

pub returns-in-Some-clause-value : goal.returns-in-Some-clause-value
returns-in-Some-clause-value c =
    greatest_taken c.args.reason c.args.term.factor _ c.args.slack _ c.unsigned_abs.result c.args.term.column
    c.in-Some.steps c.args.area.now c.near.result c.requires.term.nonzero
    (slack_same c.args.term.factor (omega (arith, c.requires.term.small))) (slack_same c.args.slack c.requires.slack)
    c.unsigned_abs.ensures.value c.in-Some.ensures c.near.ensures

pub returns-in-Some-clause-inner : goal.returns-in-Some-clause-inner
returns-in-Some-clause-inner c = closed_near Greatest _ _ c.near.result c.in-Some.steps c.in-Some.ensures.few c.near.ensures
