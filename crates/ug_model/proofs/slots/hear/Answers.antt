use Rattle.std.proofs.Common.{refl, subst}
use Rattle.ug_model.specs.SimWorkers.{IsPlace}
use Rattle.ug_model.proofs.SimWorkers.{manned_came}
use Rattle.ug_model.proofs.slots.hear.Goals as goal

pub returns-in-Some-clause-place : goal.returns-in-Some-clause-place
returns-in-Some-clause-place c h =
    manned_came c.take-heard.result c.args.exchanged.now.items c.take-heard.new.exchanged.items c.args.rank
    c.take-heard.new.buffer c.in-Some.server _ c.take-heard.ensures.taken c.take-heard.ensures.err
    c.take-heard.ensures.kept c.take-heard.ensures.lost refl refl refl refl c.is_queue.ensures
    (subst (IsPlace c.args.exchanged.now.items c.args.rank) c.in-Some.is h)
