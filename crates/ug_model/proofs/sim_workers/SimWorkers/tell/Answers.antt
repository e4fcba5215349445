use Rattle.std.proofs.Common.{rules, ◌≡◌, ◌<◌, length, slice_index_or, None, sym, subst, ◌∙◌}
use Rattle.ug_model.specs.SimWorkers.{IsPlace}
use Rattle.ug_io.specs.Crews.{told_to}
use Rattle.ug_model.proofs.SimWorkers.{always_went, any_default, slots_told, went}
use Rattle.ug_model.proofs.sim_workers.SimWorkers.tell.Goals as goal

pub invariant_of-self : goal.invariant_of-self
invariant_of-self c =
    let there : c.args.rank < length c.self.inside.slots.items = search rules in
    let its : c.index_mut.result.now ≡ slice_index_or c.self.inside.slots.items c.args.rank None =
    c.index_mut.ensures.value ∙ any_default c.self.inside.slots.items c.args.rank c.index_mut.result.now None there in
    let new = went c.tell.result c.self.inside.exchanged.items c.tell.new.exchanged.items
    (told_to c.args.rank c.args.bytes.now) c.tell.ensures.ok c.tell.ensures.err in
    record {
      slots = slots_told c.self.inside.exchanged.items c.tell.new.exchanged.items c.self.inside.slots.items c.args.rank
          c.tell.new.place c.args.bytes.now there
          new
          (λ h. c.tell.ensures.place (subst (IsPlace c.self.inside.exchanged.items c.args.rank) (sym its) h))
          c.self.invariant.slots;
      always = always_went c.self.inside.exchanged.items c.tell.new.exchanged.items c.args.rank c.args.bytes.now new
          c.self.invariant.always;
    }
