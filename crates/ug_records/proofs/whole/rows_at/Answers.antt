use Rattle.std.proofs.Common.{◌-◌, length}
use Rattle.std.proofs.lemmas.Result.{err_from_is_err_and}
use Rattle.ug_problem.specs.declared.column.NamedRow.{NamedRow}
use Rattle.ug_records.specs.Reading.{row_at, rows_at}
use Rattle.ug_fields.proofs.Loops.{goes_on, ends, is_done}
use Rattle.ug_records.proofs.whole.rows_at.Goals as goal

pub returns-in_err-row : goal.returns-in_err-row
returns-in_err-row c =
    let p = err_from_is_err_and c.from_residual.result c.from_residual.ensures.1 in
    rw (p.1, p.2)
    (ends (row_at c.args.limits.width) (λ room (row : NamedRow). room - length row.row.terms)
    c.in_err-row.field-0.0 c.loop.rows c.args.count c.loop.counter c.loop.left c.loop.rest.now
    (rows_at c.args.limits.width c.args.limits.room c.args.count c.args.bytes.now) c.loop-test.true
    c.in_err-row.ensures c.loop.invariant)

pub loop-preserved : goal.loop-preserved
loop-preserved c =
    rw (c.in_ok-push.ensures.ok, c.saturating_sub-left.ensures, c.len.ensures)
    (goes_on (row_at c.args.limits.width) (λ room (row : NamedRow). room - length row.row.terms)
    c.loop.rows c.args.count c.loop.counter c.loop.left c.loop.rest.now c.in_ok-row.row
    c.in_ok-row.after.now
    (rows_at c.args.limits.width c.args.limits.room c.args.count c.args.bytes.now) c.loop-test.true
    c.in_ok-row.ensures c.loop.invariant)

pub returns : goal.returns
returns c =
    is_done (row_at c.args.limits.width) (λ room (row : NamedRow). room - length row.row.terms) c.loop.rows
    c.args.count c.loop.counter c.loop.left c.loop.rest.now
    (rows_at c.args.limits.width c.args.limits.room c.args.count c.args.bytes.now) c.loop-test.false
    c.loop.invariant
