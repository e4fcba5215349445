use Rattle.ug_laws.proofs.Coordinated.{coordinators_lose_nothing}
use Rattle.ug_laws.proofs.law.coordinators_lose_nothing.Goals as goal

pub returns : goal.returns
returns c = coordinators_lose_nothing
