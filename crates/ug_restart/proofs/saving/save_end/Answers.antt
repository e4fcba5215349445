use Rattle.ug_restart.proofs.Going.{goes_nowhere}
use Rattle.ug_restart.proofs.saving.save_end.Goals as goal

pub returns-in-Memory-clause-goes_on : goal.returns-in-Memory-clause-goes_on
returns-in-Memory-clause-goes_on g c = goes_nowhere _ _ _
