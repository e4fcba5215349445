use Rattle.ug_laws.proofs.Worked.{coordinators_of_workers_lose_nothing}
use Rattle.ug_laws.proofs.law.coordinators_of_workers_lose_nothing.Goals as goal

pub returns : goal.returns
returns c = coordinators_of_workers_lose_nothing
