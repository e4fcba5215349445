use Rattle.std.proofs.Common.{◌+◌}
use Rattle.std.proofs.lemmas.Result.{err_from_is_err_and}
use Rattle.ug_rows.specs.declared.row.Term.{Term}
use Rattle.ug_records.specs.Reading.{term_at, terms_from}
use Rattle.ug_fields.proofs.Loops.{goes_on, ends, is_done}
use Rattle.ug_records.proofs.lists.terms_from.Goals as goal

pub returns-in_err-term : goal.returns-in_err-term
returns-in_err-term c =
    let p = err_from_is_err_and c.from_residual.result c.from_residual.ensures.1 in
    rw (p.1, p.2)
    (ends (λ least. term_at c.args.width least) (λ least (t : Term). t.column + 1)
    c.in_err-term.field-0.0 c.loop.terms c.args.count c.loop.counter c.loop.least c.loop.rest.now
    (terms_from c.args.width c.args.count c.args.bytes.now) c.loop-test.true c.in_err-term.ensures
    c.loop.invariant)

pub loop-preserved : goal.loop-preserved
loop-preserved c =
    rw (c.in_ok-push.ensures.ok, c.from-least.ensures)
    (goes_on (λ least. term_at c.args.width least) (λ least (t : Term). t.column + 1) c.loop.terms
    c.args.count c.loop.counter c.loop.least c.loop.rest.now c.in_ok-term.term
    c.in_ok-term.after.now
    (terms_from c.args.width c.args.count c.args.bytes.now) c.loop-test.true c.in_ok-term.ensures
    c.loop.invariant)

pub returns : goal.returns
returns c =
    is_done (λ least. term_at c.args.width least) (λ least (t : Term). t.column + 1) c.loop.terms
    c.args.count c.loop.counter c.loop.least c.loop.rest.now
    (terms_from c.args.width c.args.count c.args.bytes.now) c.loop-test.false c.loop.invariant
