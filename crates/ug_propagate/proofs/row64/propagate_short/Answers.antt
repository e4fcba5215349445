use Rattle.std.proofs.Common.{◌≡◌, ◌∙◌, List, ℤ, ◌≤ℤ◌, length, refl, subst, sym, arith}
use Rattle.std.proofs.lemmas.Int.{ints}
use Rattle.ug_rows.specs.declared.sums.Extreme.TheVariants.{Least, Greatest}
use Rattle.ug_rows.proofs.Replaced.{sum_small}
use Rattle.ug_rows.specs.declared.row.Term.{Term}
use Rattle.ug_problem.specs.ColumnEntries.{terms_of}
use Rattle.ug_propagate.specs.Rounds.{over_terms}
use Rattle.ug_propagate.specs.Steps.{propagated_of, slack_over, row_of}
use Rattle.ug_propagate.specs.Working.{FitWhereSame, AtFixpointWhereChanged}
use Rattle.ug_propagate.specs.declared.tight.Tight.TheVariants.{Kept}
use Rattle.ug_propagate.proofs.Near.{fit_at_fixpoint, propagate_fitting, near_none, near_some, near_within, over_is}
use Rattle.ug_propagate.proofs.Still.{row_above, row_below, row_within}
use Rattle.ug_propagate.proofs.Stepping.{max_span_at_fixpoint, rest_is, step_same}
use Rattle.ug_propagate.proofs.row64.propagate_short.Goals as goal

pub returns-then-slack-lt0-clause-value : goal.returns-then-slack-lt0-clause-value
returns-then-slack-lt0-clause-value c =
    let area = c.args.work.now.sums.area in
    let ts = terms_of c.args.problem.now c.args.s.r in
    let near = c.short_slack-slack.ensures in
    let ready = propagate_fitting c.args.problem.now c.args.work.now c.args.s ts c.requires.work c.requires.row_sides refl in
    let slack = slack_over c.args.s.row_sides ts area in
    sym (row_above c.args.s.row_sides ts area slack (over_is (length area) c.args.s.row_sides ts area ready near.small)
    (sum_small Least (length area) ts area ready.linear near.small)
    (near_none slack.high c.short_slack-slack.result.high near.high (omega (arith, ints))))

pub returns-then-slack-lt0-2-clause-value : goal.returns-then-slack-lt0-2-clause-value
returns-then-slack-lt0-2-clause-value c =
    let area = c.args.work.now.sums.area in
    let ts = terms_of c.args.problem.now c.args.s.r in
    let near = c.short_slack-slack.ensures in
    let ready = propagate_fitting c.args.problem.now c.args.work.now c.args.s ts c.requires.work c.requires.row_sides refl in
    let slack = slack_over c.args.s.row_sides ts area in
    sym (row_below c.args.s.row_sides ts area slack (over_is (length area) c.args.s.row_sides ts area ready near.small)
    (sum_small Greatest (length area) ts area ready.linear near.small)
    (near_some slack.high c.short_slack-slack.result.high near.high (omega (arith, ints)))
    (near_none slack.low c.short_slack-slack.result.low near.low (omega (arith, ints))))

pub returns-then-max_span-from-2-clause-rest : goal.returns-then-max_span-from-2-clause-rest
returns-then-max_span-from-2-clause-rest c =
    let area = c.args.work.now.sums.area in
    let ts = terms_of c.args.problem.now c.args.s.r in
    let near = c.short_slack-slack.ensures in
    let ready = propagate_fitting c.args.problem.now c.args.work.now c.args.s ts c.requires.work c.requires.row_sides refl in
    let slack = slack_over c.args.s.row_sides ts area in
    let max_span = c.max_span-max_span.result in
    let up : max_span ≤ℤ c.short_slack-slack.result.high = omega (arith, ints) in
    let down : max_span ≤ℤ c.short_slack-slack.result.low = omega (arith, ints) in
    max_span_at_fixpoint c.args.problem.now c.args.s.r c.args.s.row_sides ts c.args.work.now slack
    c.requires.work c.requires.row_sides.there refl (over_is (length area) c.args.s.row_sides ts area ready near.small)
    (near_some slack.high c.short_slack-slack.result.high near.high (omega (arith, ints)))
    (near_some slack.low c.short_slack-slack.result.low near.low (omega (arith, ints)))
    (subst (λ (v : ℤ). v ≤ℤ slack.high) c.max_span-max_span.ensures (near_within slack.high c.short_slack-slack.result.high max_span near.high up))
    (subst (λ (v : ℤ). v ≤ℤ slack.low) c.max_span-max_span.ensures (near_within slack.low c.short_slack-slack.result.low max_span near.low down))

pub returns-then-max_span-from-2-clause-value : goal.returns-then-max_span-from-2-clause-value
returns-then-max_span-from-2-clause-value c =
    let ts = terms_of c.args.problem.now c.args.s.r in
    let ready = propagate_fitting c.args.problem.now c.args.work.now c.args.s ts c.requires.work c.requires.row_sides refl in
    sym (rest_is c.args.s.row_sides ts c.args.work.now.sums.area ready.nonzero (returns-then-max_span-from-2-clause-rest c))

pub returns-then-slack-lt0-clause-step : goal.returns-then-slack-lt0-clause-step
returns-then-slack-lt0-clause-step c = step_same c.args.problem.now c.args.work.now c.requires.work

pub returns-then-slack-lt0-2-clause-step : goal.returns-then-slack-lt0-2-clause-step
returns-then-slack-lt0-2-clause-step c = step_same c.args.problem.now c.args.work.now c.requires.work

pub returns-then-max_span-from-2-clause-step : goal.returns-then-max_span-from-2-clause-step
returns-then-max_span-from-2-clause-step c = step_same c.args.problem.now c.args.work.now c.requires.work

pub returns-clause-value : goal.returns-clause-value
returns-clause-value c =
    let area = c.args.work.now.sums.area in
    let ts = terms_of c.args.problem.now c.args.s.r in
    let near = c.short_slack-slack.ensures in
    let ready = propagate_fitting c.args.problem.now c.args.work.now c.args.s ts c.requires.work c.requires.row_sides refl in
    let slack = slack_over c.args.s.row_sides ts area in
    let P : List Term → Type 0 = λ (us : List Term).
    propagated_of c.in_ok-propagated.propagated c.tighten_terms.new.work.sums.area ≡ over_terms c.args.s.row_sides.row (row_of c.args.s.row_sides us) us (Kept area) in
    subst P c.terms_at.ensures.value c.in_ok-propagated.ensures.value
    ∙ sym (row_within c.args.s.row_sides ts area slack (over_is (length area) c.args.s.row_sides ts area ready near.small)
    (near_some slack.high c.short_slack-slack.result.high near.high (omega (arith, ints)))
    (near_some slack.low c.short_slack-slack.result.low near.low (omega (arith, ints))))

pub returns-clause-rest : goal.returns-clause-rest
returns-clause-rest c =
    let area = c.args.work.now.sums.area in
    let ts = terms_of c.args.problem.now c.args.s.r in
    let near = c.short_slack-slack.ensures in
    let ready = propagate_fitting c.args.problem.now c.args.work.now c.args.s ts c.requires.work c.requires.row_sides refl in
    let slack = slack_over c.args.s.row_sides ts area in
    let P : List Term → Type 0 = λ (us : List Term). FitWhereSame c.in_ok-propagated.propagated us area (slack_over c.args.s.row_sides us area) in
    fit_at_fixpoint c.in_ok-propagated.propagated c.args.s.row_sides ts area slack (over_is (length area) c.args.s.row_sides ts area ready near.small)
    (near_some slack.high c.short_slack-slack.result.high near.high (omega (arith, ints)))
    (near_some slack.low c.short_slack-slack.result.low near.low (omega (arith, ints)))
    (subst P c.terms_at.ensures.value c.in_ok-propagated.ensures.fit)

pub returns-clause-snug : goal.returns-clause-snug
returns-clause-snug c =
    let P : List Term → Type 0 = λ (us : List Term). AtFixpointWhereChanged c.in_ok-propagated.propagated c.args.s.row_sides us c.tighten_terms.new.work.sums.area in
    subst P c.terms_at.ensures.value c.in_ok-propagated.ensures.snug
