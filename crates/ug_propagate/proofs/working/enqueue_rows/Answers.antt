use Rattle.std.proofs.Common.{arith}
use Rattle.ug_propagate.proofs.Enqueued.{enqueued_all, enqueued_first, enqueued_more}
use Rattle.ug_propagate.proofs.working.enqueue_rows.Goals as goal

pub loop-row-init : goal.loop-row-init
loop-row-init c = enqueued_first c.args.rows.now c.args.queued.now

pub loop-row-preserved : goal.loop-row-preserved
loop-row-preserved c =
    enqueued_more c.args.rows.now c.loop-row.row-index c.args.queued.now c.loop-row.queued c.enqueue.new.words
    c.enqueue.auto.words c.enqueue.ensures c.loop-row.invariant

pub returns : goal.returns
returns c =
    enqueued_all c.args.rows.now c.loop-row.row-index c.args.queued.now c.loop-row.queued
    (omega (arith, c.loop-row-test.false)) c.loop-row.invariant
