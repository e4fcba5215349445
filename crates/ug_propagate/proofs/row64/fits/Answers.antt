use Rattle.std.proofs.Common.{ℤ, ◌≤ℤ◌, FitsSigned, subst, arith}
use Rattle.std.proofs.lemmas.Int.{ints, fits_signed_from_abs}
use mir.Syntax.{w64}
use Rattle.ug_propagate.specs.Steps.{slack_over}
use Rattle.ug_propagate.proofs.Near.{near_within}
use Rattle.ug_propagate.proofs.row64.fits.Goals as goal

pub returns-then-span-slack : goal.returns-then-span-slack
returns-then-span-slack c = λ yes.
    let slack = slack_over c.args.s.row_sides c.args.terms.now c.args.area.now in
    let span = c.small_span-span.result in
    let fits : FitsSigned w64 span = fits_signed_from_abs w64 span (omega (arith, c.small_span-span.ensures.small)) in
    let up : span ≤ℤ c.args.slack.high = omega (arith, ints) in
    let down : span ≤ℤ c.args.slack.low = omega (arith, ints) in (
      subst (λ (v : ℤ). v ≤ℤ slack.high) c.small_span-span.ensures.value (near_within slack.high c.args.slack.high span c.requires.slack.high up),
      subst (λ (v : ℤ). v ≤ℤ slack.low) c.small_span-span.ensures.value (near_within slack.low c.args.slack.low span c.requires.slack.low down),
    )
