use Rattle.std.proofs.Common.{List, subst, sym}
use Rattle.ug_rows.specs.declared.area.Interval.{Interval}
use Rattle.ug_propagate.specs.Working.{FitsWhereSame}
use Rattle.ug_propagate.specs.declared.row_sides.Propagated.TheVariants.{Same}
use Rattle.ug_propagate.proofs.Stepping.{step_same}
use Rattle.ug_propagate.proofs.Still.{term_still}
use Rattle.ug_propagate.proofs.row128.tighten_term.Goals as goal

pub returns-then-fits-clause-value : goal.returns-then-fits-clause-value
returns-then-fits-clause-value c =
    let P : List Interval → Type 0 = λ (a : List Interval). FitsWhereSame Same c.args.term a c.args.slack in
    let fit : P c.args.work.now.sums.area = subst P c.sides.ensures (c.fits.ensures c.if-fits.true) in
    sym (term_still c.args.row_sides c.args.terms.now c.args.term c.args.work.now.sums.area c.args.slack c.requires.slack
    c.requires.term.nonzero fit.0 fit.1)

pub returns-then-fits-clause-step : goal.returns-then-fits-clause-step
returns-then-fits-clause-step c = step_same c.args.problem.now c.args.work.now c.requires.work

pub returns-then-fits-clause-fits : goal.returns-then-fits-clause-fits
returns-then-fits-clause-fits c =
    subst (λ (a : List Interval). FitsWhereSame Same c.args.term a c.args.slack) c.sides.ensures (c.fits.ensures c.if-fits.true)
