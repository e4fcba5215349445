use Rattle.ug_problem.proofs.Bounds.{scaled_is_exact, whole_from_places}
use Rattle.ug_problem.proofs.decimal.scales_from_its_places.Goals as goal

pub returns-clause-whole : goal.returns-clause-whole
returns-clause-whole c = whole_from_places

pub returns-clause-value : goal.returns-clause-value
returns-clause-value c = scaled_is_exact
