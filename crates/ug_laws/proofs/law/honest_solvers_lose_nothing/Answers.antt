use Rattle.ug_laws.proofs.Traces.{honest_lose_nothing}
use Rattle.ug_laws.proofs.law.honest_solvers_lose_nothing.Goals as goal

pub returns : goal.returns
returns c = honest_lose_nothing
