use Rattle.ug_problem.proofs.Fractions.{floor_is_greatest}
use Rattle.ug_problem.proofs.decimal.floor_is_greatest.Goals as goal

pub returns : goal.returns
returns c = floor_is_greatest
