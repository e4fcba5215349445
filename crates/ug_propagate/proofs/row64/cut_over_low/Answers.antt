use Rattle.std.proofs.Common.{◌≡◌, ◌∙◌, ◌≤ℤ◌, ◌<ℤ◌, FitsSigned, sym, length, arith, rules}
use Rattle.std.proofs.lemmas.Int.{ints, fits_signed_from_abs, to_z-of_z}
use mir.Syntax.{w64, w128}
use mir.Val.{to_z, of_z}
use Rattle.ug_propagate.proofs.Near.{low_cut, low_whole}
use Rattle.ug_propagate.proofs.row64.cut_over_low.Goals as goal

pub returns-then-small_span-slack-clause-value : goal.returns-then-small_span-slack-clause-value
returns-then-small_span-slack-clause-value c =
    let span = c.small_span.result in
    let fits : FitsSigned w64 span = fits_signed_from_abs w64 span (omega (arith, c.small_span.ensures.small)) in
    let slack_fits : FitsSigned w64 c.args.slack.low = search rules in
    let less : span ≤ℤ c.args.slack.low =
    omega (arith, ints, rw (to_z-of_z w64 span fits, to_z-of_z w64 c.args.slack.low slack_fits) at c.if-small_span-slack.true) in
    sym (low_whole c.args.s.row_sides c.args.terms.now c.args.term c.args.area.now c.args.slack.low span
    c.requires.term.term.nonzero c.requires.slack.low c.small_span.ensures.value less)

pub returns-clause-value : goal.returns-clause-value
returns-clause-value c =
    let span = c.small_span.result in
    let fits : FitsSigned w64 span = fits_signed_from_abs w64 span (omega (arith, c.small_span.ensures.small)) in
    let slack_fits : FitsSigned w64 c.args.slack.low = search rules in
    let from_fits : FitsSigned w128 c.from.result = search rules in
    let less : c.args.slack.low <ℤ span =
    omega (arith, ints, rw (to_z-of_z w64 span fits, to_z-of_z w64 c.args.slack.low slack_fits) at c.if-small_span-slack.false) in
    let same : to_z w128 (of_z w128 c.from.result) ≡ c.args.slack.low =
    to_z-of_z w128 c.from.result from_fits ∙ c.from.ensures ∙ to_z-of_z w64 c.args.slack.low slack_fits in
    c.cut_down.ensures.value
    ∙ sym (low_cut (length c.args.area.now) c.args.s.row_sides c.args.terms.now c.args.term c.args.area.now c.args.slack.low _
    span c.requires.row c.requires.slack.small c.requires.slack.low c.small_span.ensures.value c.small_span.ensures.small less same)
