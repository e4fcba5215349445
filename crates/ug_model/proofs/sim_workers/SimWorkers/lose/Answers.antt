use Rattle.std.proofs.Common.{is_ok}
use Rattle.ug_model.proofs.SimWorkers.{always_maybe_gone, slots_maybe_gone}
use Rattle.ug_model.proofs.sim_workers.SimWorkers.lose.Goals as goal

pub invariant_of-self : goal.invariant_of-self
invariant_of-self c =
    record {
      slots = slots_maybe_gone (is_ok c.push.result) c.self.inside.exchanged.items c.push.new.self.items
          c.self.inside.slots.items c.args.rank c.push.ensures.items c.self.invariant.slots;
      always = always_maybe_gone (is_ok c.push.result) c.self.inside.exchanged.items c.push.new.self.items c.args.rank
          c.push.ensures.items c.self.invariant.always;
    }
