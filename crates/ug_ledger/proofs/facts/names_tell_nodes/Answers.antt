use Rattle.ug_ledger.proofs.FactLemmas.{name_of_one}
use Rattle.ug_ledger.proofs.facts.names_tell_nodes.Goals as goal

pub returns : goal.returns
returns c = name_of_one
