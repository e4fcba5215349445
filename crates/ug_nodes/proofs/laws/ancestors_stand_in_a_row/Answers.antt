use Rattle.ug_nodes.proofs.LineLemmas.{ancestor_along, ancestor_not_itself, ancestor_either}
use Rattle.ug_nodes.proofs.laws.ancestors_stand_in_a_row.Goals as goal

pub returns-clause-along : goal.returns-clause-along
returns-clause-along c = ancestor_along

pub returns-clause-not_itself : goal.returns-clause-not_itself
returns-clause-not_itself c = ancestor_not_itself

pub returns-clause-either : goal.returns-clause-either
returns-clause-either c = ancestor_either
