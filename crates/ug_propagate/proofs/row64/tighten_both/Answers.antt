use Rattle.ug_propagate.proofs.Near.{propagate_fitting, slacks_named, short_term_later}
use Rattle.ug_propagate.proofs.Stepping.{step_trans}
use Rattle.ug_propagate.proofs.row64.tighten_both.Goals as goal

pub tighten_under_high-requires-clause-row : goal.tighten_under_high-requires-clause-row
tighten_under_high-requires-clause-row c =
    propagate_fitting c.args.problem.now c.args.work.now c.args.s c.args.terms.now c.requires.work c.requires.row_sides c.requires.terms

pub tighten_over_low-requires-clause-row : goal.tighten_over_low-requires-clause-row
tighten_over_low-requires-clause-row c =
    propagate_fitting c.args.problem.now c.tighten_under_high.new.work c.args.s c.args.terms.now c.tighten_under_high.ensures.step.box
    c.requires.row_sides c.requires.terms

pub tighten_over_low-requires-clause-term : goal.tighten_over_low-requires-clause-term
tighten_over_low-requires-clause-term c =
    short_term_later c.args.problem.now c.args.work.now c.tighten_under_high.new.work c.args.term c.requires.work
    c.tighten_under_high.ensures.step c.requires.term

pub tighten_over_low-requires-clause-slack : goal.tighten_over_low-requires-clause-slack
tighten_over_low-requires-clause-slack c =
    slacks_named c.args.problem.now c.args.s c.args.terms.now c.tighten_under_high.new.work.sums.area _ c.requires.terms
    c.short_slack-slack.ensures

pub returns-in_err-told-clause-step : goal.returns-in_err-told-clause-step
returns-in_err-told-clause-step c =
    step_trans c.args.problem.now c.args.work.now c.tighten_under_high.new.work c.tighten_over_low.new.work
    c.tighten_under_high.ensures.step c.tighten_over_low.ensures.step

pub returns-clause-step : goal.returns-clause-step
returns-clause-step c =
    step_trans c.args.problem.now c.args.work.now c.tighten_under_high.new.work c.tighten_over_low.new.work
    c.tighten_under_high.ensures.step c.tighten_over_low.ensures.step
