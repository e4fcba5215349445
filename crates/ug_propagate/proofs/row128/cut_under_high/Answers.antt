use Rattle.std.proofs.Common.{◌∙◌, ℤ, ◌+ℤ◌, ap, sym, length, arith}
use Rattle.std.proofs.lemmas.Int.{ints}
use Rattle.ug_rows.specs.Sums.{end_product}
use Rattle.ug_rows.specs.declared.sums.Extreme.TheVariants.{Least}
use Rattle.ug_propagate.proofs.Machine.{slack_same}
use Rattle.ug_propagate.proofs.Slacks.{high_taken}
use Rattle.ug_propagate.proofs.Still.{high_still}
use Rattle.ug_propagate.proofs.row128.cut_under_high.Goals as goal

pub returns-then-span-slack-clause-value : goal.returns-then-span-slack-clause-value
returns-then-span-slack-clause-value c =
    sym (high_still c.args.row_sides.row c.args.terms.now c.args.row_sides.high c.args.term c.args.area.now c.args.slack.high
    c.requires.term.nonzero c.requires.slack.high (omega (arith, ints)))

pub returns-clause-value : goal.returns-clause-value
returns-clause-value c =
    c.cut_up.ensures.value
    ∙ sym (high_taken (length c.args.area.now) c.args.row_sides c.args.terms.now c.args.term c.args.area.now c.args.slack
    c.span.result _ c.requires.row c.requires.slack c.span.ensures.small (omega (arith, ints))
    (ap (λ (v : ℤ). v +ℤ end_product Least c.args.term c.args.area.now) (slack_same c.args.slack.high c.requires.slack.high_size)))
