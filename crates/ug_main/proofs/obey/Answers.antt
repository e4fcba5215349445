use Rattle.ug_main.proofs.Files.{unbegun_is_run}
use Rattle.ug_main.proofs.obey.Goals as goal

pub returns-in-Err-Memory : goal.returns-in-Err-Memory
returns-in-Err-Memory g c = unbegun_is_run _ _ _ c.unbegun.ensures
