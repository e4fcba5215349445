use Rattle.std.proofs.Common.{refl}
use Rattle.ug_desk.specs.Histories.{copied}
use Rattle.ug_desk.specs.Views.{state_of}
use Rattle.ug_desk.proofs.Entering.{entered}
use Rattle.ug_desk.proofs.locked.Locked.snapshot.Goals as goal

pub invariant_of-self : goal.invariant_of-self
invariant_of-self c = (
  entered (state_of c.self.inside) _ c.args.rank copied c.self.invariant.0
      (record { step = refl; opening = refl; count = c.one_more-self-inside.ensures })
      (record { problem = refl; run = refl; settings = refl; wide = refl }) (λ sound. sound) refl,
  c.self.invariant.1,
)
