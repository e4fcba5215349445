use Rattle.std.proofs.Common.{List, length, subst, sym}
use Rattle.ug_rows.specs.declared.area.Interval.{Interval}
use Rattle.ug_propagate.specs.Steps.{slack_over}
use Rattle.ug_propagate.specs.Working.{FitsWhereSame}
use Rattle.ug_propagate.specs.declared.row_sides.Propagated.TheVariants.{Same}
use Rattle.ug_propagate.proofs.Near.{propagate_fitting, over_is}
use Rattle.ug_propagate.proofs.Stepping.{step_same}
use Rattle.ug_propagate.proofs.Still.{term_still}
use Rattle.ug_propagate.proofs.row64.tighten_term.Goals as goal

pub returns-then-fits-clause-fits : goal.returns-then-fits-clause-fits
returns-then-fits-clause-fits c =
    let P : List Interval → Type 0 = λ (a : List Interval).
    FitsWhereSame Same c.args.term a (slack_over c.args.s.row_sides c.args.terms.now a) in
    subst P c.sides.ensures (c.fits.ensures c.if-fits.true)

pub returns-then-fits-clause-value : goal.returns-then-fits-clause-value
returns-then-fits-clause-value c =
    let area = c.args.work.now.sums.area in
    let fit = returns-then-fits-clause-fits c in
    sym (term_still c.args.s.row_sides c.args.terms.now c.args.term area (slack_over c.args.s.row_sides c.args.terms.now area)
    (over_is (length area) c.args.s.row_sides c.args.terms.now area
    (propagate_fitting c.args.problem.now c.args.work.now c.args.s c.args.terms.now c.requires.work c.requires.row_sides c.requires.terms)
    c.requires.slack.small)
    c.requires.term.term.nonzero fit.0 fit.1)

pub returns-then-fits-clause-step : goal.returns-then-fits-clause-step
returns-then-fits-clause-step c = step_same c.args.problem.now c.args.work.now c.requires.work
