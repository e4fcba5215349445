use Rattle.ug_model.proofs.Queues.{kept_told_so}
use Rattle.ug_model.proofs.queue_link.QueueLink.tell.Goals as goal

pub invariant_of-self-2 : goal.invariant_of-self-2
invariant_of-self-2 c =
    kept_told_so c.self.inside.said.items c.keep_both.new.said.items c.self.inside.put.items
    c.self.inside.told.items c.keep_both.new.all.items c.args.bytes.now c.self.inside.heard c.self.inside.given
    c.self.inside.taken c.in_ok-keep_both.ensures.ok c.in_ok-keep_both.ensures.all c.self.invariant
