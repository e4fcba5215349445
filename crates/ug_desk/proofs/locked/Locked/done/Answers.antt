use Rattle.std.proofs.Common.{refl}
use Rattle.ug_desk.specs.Histories.{ended}
use Rattle.ug_desk.specs.Views.{state_of}
use Rattle.ug_desk.proofs.Entering.{entered_none}
use Rattle.ug_desk.proofs.locked.Locked.done.Goals as goal

pub invariant_of-self : goal.invariant_of-self
invariant_of-self c =
    entered_none (state_of c.self.inside) _ _ c.args.rank c.self.inside.word (ended c.args.task.now c.done-heard.result)
    c.self.invariant (record { book = c.done-heard.ensures.done; tickets = refl })
    c.done-heard.ensures.same c.done-heard.ensures.sound c.one_more-self-inside.ensures tt
