use Rattle.std.proofs.Common.{ℤ}
use Rattle.std.specs.Int.{w32}
use Rattle.std.proofs.lemmas.Int.{to_z-of_z}
use Rattle.std.proofs.lemmas.Result.{err_from_is_err_and}
use Rattle.ug_fields.specs.Reading.{bound_at}
use Rattle.ug_fields.proofs.Loops.{goes_on, ends, is_done}
use Rattle.ug_frames.specs.Reading.{values_at}
use Rattle.ug_fields.proofs.Values.{bound_fits}
use Rattle.ug_frames.proofs.reading.point.values_at.Goals as goal

pub returns-in_err-value : goal.returns-in_err-value
returns-in_err-value c =
    let p = err_from_is_err_and c.from_residual-in_err-value.result c.from_residual-in_err-value.ensures.1 in
    rw (p.1, p.2)
    (ends (λ (state : Unit {0}). bound_at) (λ state (value : ℤ). state)
    c.in_err-value.field-0.0 c.loop.values c.args.count c.loop.counter tt c.loop.rest.now
    (values_at c.args.count c.args.bytes.now) c.loop-test.true c.in_err-value.ensures
    c.loop.invariant)

pub loop-preserved : goal.loop-preserved
loop-preserved c =
    let fits = bound_fits c.loop.rest.now c.in_ok-value.value c.in_ok-value.after.now
    c.in_ok-value.ensures in
    rw (c.in_ok-push_value.ensures, to_z-of_z w32 c.in_ok-value.value fits)
    (goes_on (λ (state : Unit {0}). bound_at) (λ state (value : ℤ). state) c.loop.values
    c.args.count c.loop.counter tt c.loop.rest.now c.in_ok-value.value c.in_ok-value.after.now
    (values_at c.args.count c.args.bytes.now) c.loop-test.true c.in_ok-value.ensures
    c.loop.invariant)

pub returns : goal.returns
returns c =
    is_done (λ (state : Unit {0}). bound_at) (λ state (value : ℤ). state) c.loop.values
    c.args.count c.loop.counter tt c.loop.rest.now
    (values_at c.args.count c.args.bytes.now) c.loop-test.false c.loop.invariant
