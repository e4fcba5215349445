use Rattle.ug_problem.proofs.Incumbents.{covered_under_more}
use Rattle.ug_problem.proofs.laws.gaps_may_grow.Goals as goal

pub returns : goal.returns
returns c = covered_under_more
