use Rattle.std.proofs.Common.{Option, subst}
use Rattle.std.specs.Option.{option_copied}
use Rattle.ug_disk.specs.Histories.{History}
use Rattle.ug_checkpoint.specs.Recovery.{HasFound}
use Rattle.ug_checkpoint.proofs.Keeping.{kept_loaded}
use Rattle.ug_checkpoint.proofs.saver.Saver.new.Goals as goal

pub returns-in-Some-clause-kept : goal.returns-in-Some-clause-kept
returns-in-Some-clause-kept c = λ (old new : Option History)
    (loaded : HasFound old new (option_copied c.args.found)).
    kept_loaded c.new.result c.in-Some.found.now old new c.new.ensures.last c.new.ensures.knows
    (subst (λ o. HasFound old new (option_copied o)) c.in-Some.is loaded)
