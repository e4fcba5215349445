use Rattle.ug_base.proofs.Splits.{midway_halves}
use Rattle.ug_base.proofs.scores.BranchScores.branching.Goals as goal

pub returns-in-Some-clause-halves : goal.returns-in-Some-clause-halves
returns-in-Some-clause-halves c = midway_halves _ _ c.in-Some.ensures

pub returns-in-Some-by_weights-clause-halves : goal.returns-in-Some-by_weights-clause-halves
returns-in-Some-by_weights-clause-halves c = midway_halves _ _ c.in-Some-by_weights.ensures
