use Rattle.ug_propagate.proofs.Enqueued.{AreFirstEnqueued}
use Rattle.ug_propagate.proofs.working.enqueue_rows.Given as goal

abbrev pub invariant-loop-row : goal.invariant-loop-row
invariant-loop-row l = AreFirstEnqueued l.rows l.row-index l.initial.queued l.queued
