use Rattle.std.proofs.Common.{refl, subst}
use Rattle.ug_model.specs.SimWorkers.{IsPlace}
use Rattle.ug_model.proofs.SimWorkers.{manned_told}
use Rattle.ug_model.proofs.slots.tell.Goals as goal

pub returns-in-Ok-clause-place : goal.returns-in-Ok-clause-place
returns-in-Ok-clause-place c h =
    manned_told c.args.exchanged.now.items c.keep_to.new.exchanged.items c.args.rank c.args.bytes.now c.in-Some.server _
    c.in_ok-keep_to.ensures.ok refl refl refl refl c.in-Ok.ensures.ok c.is_queue.ensures
    (subst (IsPlace c.args.exchanged.now.items c.args.rank) c.in-Some.is h)
