use Rattle.std.proofs.Common.{subst}
use Rattle.ug_model.specs.Queues.{IsQueue}
use Rattle.ug_model.proofs.Queues.{kept_queue}
use Rattle.ug_model.proofs.queue_link.QueueLink.is_queue.Goals as goal

pub returns : goal.returns
returns c =
    subst IsQueue c.self.view_is
    (kept_queue c.self.inside.said.items c.self.inside.put.items c.self.inside.told.items c.self.inside.heard
    c.self.inside.given c.self.inside.taken c.self.inside.faults c.self.invariant)
