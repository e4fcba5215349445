use Rattle.ug_propagate.specs.Steps.{row_of}
use Rattle.ug_propagate.proofs.Bodies.{terms_stop}
use Rattle.ug_propagate.proofs.row_spec.tighten_terms.Goals as goal

pub returns-in-Some : goal.returns-in-Some
returns-in-Some c =
    terms_stop c.args.row_sides.row (row_of c.args.row_sides c.args.terms.now) c.args.terms.now c.loop-term.term-index
    c.loop-term.area c.in-Some.reason _ c.loop-term-test.true c.in-Some.ensures c.loop-term.invariant
