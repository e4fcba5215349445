use Rattle.ug_nodes.proofs.Fronts.{below_test}
use Rattle.ug_nodes.proofs.sorted_lines.is_below_any.Goals as goal

pub returns : goal.returns
returns c = below_test _ _ _ c.has_front.ensures
