use Rattle.ug_rules.proofs.SettledLemmas.{decided_settled}
use Rattle.ug_rules.proofs.laws_of_deciding.decided_is_settled.Goals as goal

pub returns : goal.returns
returns c = decided_settled
