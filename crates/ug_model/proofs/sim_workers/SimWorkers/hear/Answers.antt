use Rattle.std.proofs.Common.{rules, ◌≡◌, ◌<◌, length, slice_index_or, None, sym, subst, ◌∙◌}
use Rattle.ug_model.specs.SimWorkers.{IsPlace}
use Rattle.ug_model.proofs.SimWorkers.{always_came, any_default, came, slots_heard}
use Rattle.ug_model.proofs.sim_workers.SimWorkers.hear.Goals as goal

pub invariant_of-self : goal.invariant_of-self
invariant_of-self c =
    let there : c.args.rank < length c.self.inside.slots.items = search rules in
    let its : c.index_mut.result.now ≡ slice_index_or c.self.inside.slots.items c.args.rank None =
    c.index_mut.ensures.value ∙ any_default c.self.inside.slots.items c.args.rank c.index_mut.result.now None there in
    let new = came c.hear.result c.self.inside.exchanged.items c.hear.new.exchanged.items c.args.rank c.hear.new.buffer
    c.hear.ensures.heard c.hear.ensures.err in
    let slots = slots_heard c.self.inside.exchanged.items c.hear.new.exchanged.items c.self.inside.slots.items c.args.rank
    c.hear.new.place there
    new
    (λ h. c.hear.ensures.place (subst (IsPlace c.self.inside.exchanged.items c.args.rank) (sym its) h))
    c.self.invariant.slots in
    record {
      slots = slots;
      always = always_came c.self.inside.exchanged.items c.hear.new.exchanged.items _ c.args.rank new slots
          c.self.invariant.always;
    }
