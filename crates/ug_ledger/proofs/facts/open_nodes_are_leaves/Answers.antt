use Rattle.ug_ledger.proofs.FactLemmas.{none_below}
use Rattle.ug_ledger.proofs.facts.open_nodes_are_leaves.Goals as goal

pub returns : goal.returns
returns c = none_below
