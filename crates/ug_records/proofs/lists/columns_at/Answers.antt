use Rattle.std.proofs.lemmas.Result.{err_from_is_err_and}
use Rattle.ug_problem.specs.declared.column.Column.{Column}
use Rattle.ug_fields.specs.Reading.{many_at}
use Rattle.ug_records.specs.Reading.{column_at}
use Rattle.ug_fields.proofs.Loops.{goes_on, ends, is_done}
use Rattle.ug_records.proofs.lists.columns_at.Goals as goal

pub returns-in_err-column : goal.returns-in_err-column
returns-in_err-column c =
    let p = err_from_is_err_and c.from_residual.result c.from_residual.ensures.1 in
    rw (p.1, p.2)
    (ends (λ (state : Unit {0}). column_at) (λ state (column : Column). state)
    c.in_err-column.field-0.0 c.loop.columns c.args.count c.loop.counter tt c.loop.rest.now
    (many_at (λ (state : Unit {0}). column_at) (λ state (column : Column). state) c.args.count tt
    c.args.bytes.now) c.loop-test.true c.in_err-column.ensures c.loop.invariant)

pub loop-preserved : goal.loop-preserved
loop-preserved c =
    rw c.in_ok-push.ensures.ok
    (goes_on (λ (state : Unit {0}). column_at) (λ state (column : Column). state) c.loop.columns
    c.args.count c.loop.counter tt c.loop.rest.now c.in_ok-column.column c.in_ok-column.after.now
    (many_at (λ (state : Unit {0}). column_at) (λ state (column : Column). state) c.args.count tt
    c.args.bytes.now) c.loop-test.true c.in_ok-column.ensures c.loop.invariant)

pub returns : goal.returns
returns c =
    is_done (λ (state : Unit {0}). column_at) (λ state (column : Column). state) c.loop.columns
    c.args.count c.loop.counter tt c.loop.rest.now
    (many_at (λ (state : Unit {0}). column_at) (λ state (column : Column). state) c.args.count tt
    c.args.bytes.now) c.loop-test.false c.loop.invariant
