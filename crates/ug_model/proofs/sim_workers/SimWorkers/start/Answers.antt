use Rattle.std.proofs.Common.{rules, ◌≡◌, ◌<◌, length, slice_index_or, None, sym, subst, ◌∙◌}
use Rattle.ug_model.specs.SimWorkers.{IsPlace}
use Rattle.ug_model.proofs.SimWorkers.{any_default, slots_still}
use Rattle.ug_model.proofs.sim_workers.SimWorkers.start.Goals as goal

pub invariant_of-self : goal.invariant_of-self
invariant_of-self c =
    let there : c.args.rank < length c.self.inside.slots.items = search rules in
    let its : c.index_mut.result.now ≡ slice_index_or c.self.inside.slots.items c.args.rank None =
    c.index_mut.ensures.value ∙ any_default c.self.inside.slots.items c.args.rank c.index_mut.result.now None there in
    record {
      slots = slots_still c.self.inside.exchanged.items c.self.inside.slots.items c.args.rank c.start.new.place there
          (λ h. c.start.ensures c.self.inside.exchanged.items c.args.rank
          (subst (IsPlace c.self.inside.exchanged.items c.args.rank) (sym its) h))
          c.self.invariant.slots;
      always = c.self.invariant.always;
    }
