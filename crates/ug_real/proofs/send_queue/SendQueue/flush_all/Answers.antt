use Rattle.ug_real.proofs.Writing.{both_ok}
use Rattle.ug_real.proofs.send_queue.SendQueue.flush_all.Goals as goal

pub returns-in-Ok-true : goal.returns-in-Ok-true
returns-in-Ok-true g c =
    record { ok = both_ok c.flush_own.result _ _ _ _ _ _ c.in-Ok-true.ensures.ok c.flush_own.ensures.ok }
