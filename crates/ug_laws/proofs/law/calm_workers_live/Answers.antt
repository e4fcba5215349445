use Rattle.ug_laws.proofs.Living.{calm_workers_live}
use Rattle.ug_laws.proofs.law.calm_workers_live.Goals as goal

pub returns : goal.returns
returns c = calm_workers_live
