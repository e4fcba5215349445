use Rattle.ug_nodes.proofs.Areas.{area_spelled, area_below, area_only}
use Rattle.ug_nodes.proofs.laws.one_box_for_each_list.Goals as goal

pub returns-clause-spelled : goal.returns-clause-spelled
returns-clause-spelled c = area_spelled

pub returns-clause-below : goal.returns-clause-below
returns-clause-below c = area_below

pub returns-clause-only : goal.returns-clause-only
returns-clause-only c = λ root area changes rising s. (s.valid, area_only root area changes rising s)
