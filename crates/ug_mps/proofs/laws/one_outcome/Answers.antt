use Rattle.ug_mps.proofs.Outcome.{one_outcome}
use Rattle.ug_mps.proofs.laws.one_outcome.Goals as goal

pub returns : goal.returns
returns c = one_outcome
