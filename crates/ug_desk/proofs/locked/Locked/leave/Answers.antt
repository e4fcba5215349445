use Rattle.std.proofs.Common.{refl}
use Rattle.ug_desk.specs.Histories.{left}
use Rattle.ug_desk.specs.Views.{state_of}
use Rattle.ug_desk.proofs.Entering.{entered_none}
use Rattle.ug_desk.proofs.locked.Locked.leave.Goals as goal

pub invariant_of-self : goal.invariant_of-self
invariant_of-self c =
    entered_none (state_of c.self.inside) _ _ c.args.rank c.self.inside.word left c.self.invariant
    (record { book = c.gone.ensures.done; tickets = refl }) c.gone.ensures.same c.gone.ensures.sound
    c.one_more-self-inside.ensures tt
