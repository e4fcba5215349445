use Rattle.std.proofs.Common.{ℕ, List, take, drop, ap, ◌∙◌, arith}
use Rattle.ug_model.proofs.Queues.{kept_heard_so}
use Rattle.ug_model.proofs.queue_link.QueueLink.hear.Goals as goal

pub invariant_of-self-2 : goal.invariant_of-self-2
invariant_of-self-2 c =
    kept_heard_so c.self.inside.said.items c.keep_heard.new.said.items c.self.inside.put.items
    c.self.inside.told.items _ c.self.inside.heard c.self.inside.given c.self.inside.taken c.least-count.result
    c.in_ok-keep_heard.ensures.ok (c.part-front.ensures
    ∙ ap (λ (b : List ℕ). take c.least-count.result (drop c.self.inside.heard b)) c.deref.ensures.value)
    (omega (arith, c.least-count.ensures.second, c.self.invariant.allowed)) c.self.invariant
