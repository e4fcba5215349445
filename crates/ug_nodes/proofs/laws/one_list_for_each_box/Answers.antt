use Rattle.ug_nodes.proofs.Lists.{some_list, one_list, one_box}
use Rattle.ug_nodes.proofs.laws.one_list_for_each_box.Goals as goal

pub returns-clause-some : goal.returns-clause-some
returns-clause-some c = some_list

pub returns-clause-one : goal.returns-clause-one
returns-clause-one c = one_list

pub returns-clause-back : goal.returns-clause-back
returns-clause-back c = one_box
