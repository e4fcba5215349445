use Rattle.std.proofs.Common.{ℕ, List, ◌++◌, take, drop, ap, sym, ◌∙◌}
use Rattle.ug_io.specs.Crews.{heard_from}
use Rattle.ug_model.proofs.Queues.{taken_more}
use Rattle.ug_model.proofs.queue_link.QueueLink.take.Goals as goal

pub returns-clause-taken : goal.returns-clause-taken
returns-clause-taken c =
    taken_more c.self.inside.said.items c.self.inside.put.items c.self.inside.told.items _
    c.self.inside.taken c.least-count.result c.self.inside.faults c.args.self.now c.self.view_is
    (c.copy_part.ensures.front
    ∙ ap (λ (b : List ℕ). take c.least-count.result (drop c.self.inside.taken b)) c.deref-2.ensures.value)

pub returns-clause-kept : goal.returns-clause-kept
returns-clause-kept c =
    let part = λ (b : List ℕ). take c.least-count.result (drop c.self.inside.taken b) in
    c.in_ok-keep_from.ensures.ok
    ∙ ap (λ (b : List ℕ). c.args.exchanged.now.items ++ heard_from c.args.rank b)
    (c.part-front.ensures ∙ ap part c.deref.ensures.value
    ∙ sym (c.copy_part.ensures.front ∙ ap part c.deref-2.ensures.value))
