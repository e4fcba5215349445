use Rattle.ug_propagate.proofs.Stepping.{propagable_later, step_trans, term_later}
use Rattle.ug_propagate.proofs.row128.tighten_both.Goals as goal

pub slack_of-slack-requires-clause-row : goal.slack_of-slack-requires-clause-row
slack_of-slack-requires-clause-row c =
    propagable_later c.args.problem.now c.args.work.now c.tighten_under_high.new.work c.args.row_sides c.args.terms.now c.requires.work
    c.tighten_under_high.ensures.step c.requires.row

pub tighten_over_low-requires-clause-row : goal.tighten_over_low-requires-clause-row
tighten_over_low-requires-clause-row c =
    propagable_later c.args.problem.now c.args.work.now c.tighten_under_high.new.work c.args.row_sides c.args.terms.now c.requires.work
    c.tighten_under_high.ensures.step c.requires.row

pub tighten_over_low-requires-clause-term : goal.tighten_over_low-requires-clause-term
tighten_over_low-requires-clause-term c =
    term_later c.args.problem.now c.args.work.now c.tighten_under_high.new.work c.args.term c.requires.work
    c.tighten_under_high.ensures.step c.requires.term

pub returns-in_err-told-clause-step : goal.returns-in_err-told-clause-step
returns-in_err-told-clause-step c =
    step_trans c.args.problem.now c.args.work.now c.tighten_under_high.new.work c.tighten_over_low.new.work
    c.tighten_under_high.ensures.step c.tighten_over_low.ensures.step

pub returns-clause-step : goal.returns-clause-step
returns-clause-step c =
    step_trans c.args.problem.now c.args.work.now c.tighten_under_high.new.work c.tighten_over_low.new.work
    c.tighten_under_high.ensures.step c.tighten_over_low.ensures.step
