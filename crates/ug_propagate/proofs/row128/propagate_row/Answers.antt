use Rattle.std.proofs.Common.{ℤ, ◌≤ℤ◌, FitsSigned, length, subst, sym, rules}
use Rattle.std.proofs.lemmas.Int.{to_z-of_z}
use mir.Syntax.{w128}
use Rattle.ug_rows.specs.declared.sums.Extreme.TheVariants.{Least, Greatest}
use Rattle.ug_rows.proofs.Replaced.{sum_small}
use Rattle.ug_propagate.proofs.Cutoffs.{at_most_true}
use Rattle.ug_propagate.proofs.Machine.{slack_same}
use Rattle.ug_propagate.proofs.Still.{row_above, row_below}
use Rattle.ug_propagate.proofs.Stepping.{max_span_at_fixpoint, rest_is, step_same}
use Rattle.ug_propagate.proofs.Words.{less_false, less_true}
use Rattle.ug_propagate.proofs.row128.propagate_row.Goals as goal

pub returns-then-slack-lt0-clause-value : goal.returns-then-slack-lt0-clause-value
returns-then-slack-lt0-clause-value c =
    let area = c.args.work.now.sums.area in
    let slack = c.slack_of-slack.result in
    let is = c.slack_of-slack.ensures in
    sym (row_above c.args.row_sides c.args.terms.now area slack is
    (sum_small Least (length area) c.args.terms.now area c.requires.row.linear is.small)
    (less_true _ _ (rw (slack_same slack.high is.high_size) at c.if-slack-lt0.true)))

pub returns-then-slack-lt0-2-clause-value : goal.returns-then-slack-lt0-2-clause-value
returns-then-slack-lt0-2-clause-value c =
    let area = c.args.work.now.sums.area in
    let slack = c.slack_of-slack.result in
    let is = c.slack_of-slack.ensures in
    sym (row_below c.args.row_sides c.args.terms.now area slack is
    (sum_small Greatest (length area) c.args.terms.now area c.requires.row.linear is.small)
    (less_false _ _ (rw (slack_same slack.high is.high_size) at c.if-slack-lt0.false))
    (less_true _ _ (rw (slack_same slack.low is.low_size) at c.if-slack-lt0-2.true)))

pub returns-then-max_span-slack-2-clause-rest : goal.returns-then-max_span-slack-2-clause-rest
returns-then-max_span-slack-2-clause-rest c =
    let slack = c.slack_of-slack.result in
    let is = c.slack_of-slack.ensures in
    let max_span = c.max_span-max_span.result in
    let fits : FitsSigned w128 max_span = search rules in
    let up : max_span ≤ℤ slack.high = at_most_true _ _ (rw (to_z-of_z w128 max_span fits, slack_same slack.high is.high_size) at c.if-max_span-slack.true) in
    let down : max_span ≤ℤ slack.low = at_most_true _ _ (rw (to_z-of_z w128 max_span fits, slack_same slack.low is.low_size) at c.if-max_span-slack-2.true) in
    max_span_at_fixpoint c.args.problem.now c.args.r c.args.row_sides c.args.terms.now c.args.work.now slack
    c.requires.work c.requires.there c.requires.terms is
    (less_false _ _ (rw (slack_same slack.high is.high_size) at c.if-slack-lt0.false))
    (less_false _ _ (rw (slack_same slack.low is.low_size) at c.if-slack-lt0-2.false))
    (subst (λ (v : ℤ). v ≤ℤ slack.high) c.max_span-max_span.ensures up) (subst (λ (v : ℤ). v ≤ℤ slack.low) c.max_span-max_span.ensures down)

pub returns-then-max_span-slack-2-clause-value : goal.returns-then-max_span-slack-2-clause-value
returns-then-max_span-slack-2-clause-value c =
    sym (rest_is c.args.row_sides c.args.terms.now c.args.work.now.sums.area c.requires.row.nonzero
    (returns-then-max_span-slack-2-clause-rest c))

pub tighten_terms-requires-clause-high : goal.tighten_terms-requires-clause-high
tighten_terms-requires-clause-high c =
    less_false _ _ (rw (slack_same c.slack_of-slack.result.high c.slack_of-slack.ensures.high_size) at c.if-slack-lt0.false)

pub tighten_terms-requires-clause-low : goal.tighten_terms-requires-clause-low
tighten_terms-requires-clause-low c =
    less_false _ _ (rw (slack_same c.slack_of-slack.result.low c.slack_of-slack.ensures.low_size) at c.if-slack-lt0-2.false)

pub returns-then-slack-lt0-clause-step : goal.returns-then-slack-lt0-clause-step
returns-then-slack-lt0-clause-step c = step_same c.args.problem.now c.args.work.now c.requires.work

pub returns-then-slack-lt0-2-clause-step : goal.returns-then-slack-lt0-2-clause-step
returns-then-slack-lt0-2-clause-step c = step_same c.args.problem.now c.args.work.now c.requires.work

pub returns-then-max_span-slack-2-clause-step : goal.returns-then-max_span-slack-2-clause-step
returns-then-max_span-slack-2-clause-step c = step_same c.args.problem.now c.args.work.now c.requires.work
