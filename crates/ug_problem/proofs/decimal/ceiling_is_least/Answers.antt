use Rattle.ug_problem.proofs.Fractions.{ceiling_is_least}
use Rattle.ug_problem.proofs.decimal.ceiling_is_least.Goals as goal

pub returns : goal.returns
returns c = ceiling_is_least
