use Rattle.std.proofs.Common.{◌+◌}
use Rattle.std.proofs.lemmas.Result.{err_from_is_err_and}
use Rattle.ug_nodes.specs.declared.change.Change.{Change}
use Rattle.ug_fields.proofs.Loops.{goes_on, ends, is_done}
use Rattle.ug_frames.specs.Reading.{change_at, changes_from}
use Rattle.ug_frames.proofs.reading.changes.changes_from.Goals as goal

pub returns-in_err-change : goal.returns-in_err-change
returns-in_err-change c =
    let p = err_from_is_err_and c.from_residual-in_err-change.result c.from_residual-in_err-change.ensures.1 in
    rw (p.1, p.2)
    (ends change_at (λ least (c : Change). c.column + 1)
    c.in_err-change.field-0.0 c.loop.changes c.args.count c.loop.counter c.loop.least
    c.loop.rest.now
    (changes_from c.args.count c.args.bytes.now) c.loop-test.true
    c.in_err-change.ensures c.loop.invariant)

pub loop-preserved : goal.loop-preserved
loop-preserved c =
    rw (c.in_ok-push.ensures.ok, c.from-least.ensures)
    (goes_on change_at (λ least (c : Change). c.column + 1) c.loop.changes
    c.args.count c.loop.counter c.loop.least c.loop.rest.now c.in_ok-change.change
    c.in_ok-change.after.now
    (changes_from c.args.count c.args.bytes.now) c.loop-test.true
    c.in_ok-change.ensures c.loop.invariant)

pub returns : goal.returns
returns c =
    is_done change_at (λ least (c : Change). c.column + 1) c.loop.changes
    c.args.count c.loop.counter c.loop.least c.loop.rest.now
    (changes_from c.args.count c.args.bytes.now) c.loop-test.false
    c.loop.invariant
