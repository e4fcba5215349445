use Rattle.std.proofs.Common.{◌∙◌, ℤ, ◌-ℤ◌, ap, sym, length, arith}
use Rattle.std.proofs.lemmas.Int.{ints}
use Rattle.ug_rows.specs.Sums.{end_product}
use Rattle.ug_rows.specs.declared.sums.Extreme.TheVariants.{Greatest}
use Rattle.ug_propagate.proofs.Machine.{slack_same}
use Rattle.ug_propagate.proofs.Slacks.{low_taken}
use Rattle.ug_propagate.proofs.Still.{low_still}
use Rattle.ug_propagate.proofs.row128.cut_over_low.Goals as goal

pub returns-then-span-slack-clause-value : goal.returns-then-span-slack-clause-value
returns-then-span-slack-clause-value c =
    sym (low_still c.args.row_sides.row c.args.terms.now c.args.row_sides.low c.args.term c.args.area.now c.args.slack.low
    c.requires.term.nonzero c.requires.slack.low (omega (arith, ints)))

pub returns-clause-value : goal.returns-clause-value
returns-clause-value c =
    c.cut_down.ensures.value
    ∙ sym (low_taken (length c.args.area.now) c.args.row_sides c.args.terms.now c.args.term c.args.area.now c.args.slack
    c.span.result _ c.requires.row c.requires.slack c.span.ensures.small (omega (arith, ints))
    (ap (λ (v : ℤ). end_product Greatest c.args.term c.args.area.now -ℤ v) (slack_same c.args.slack.low c.requires.slack.low_size)))
