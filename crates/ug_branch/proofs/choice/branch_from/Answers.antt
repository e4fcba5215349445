use Rattle.ug_branch.proofs.HalfLemmas.{best_halves}
use Rattle.ug_branch.proofs.choice.branch_from.Goals as goal

pub returns-in-Some-clause-halves : goal.returns-in-Some-clause-halves
returns-in-Some-clause-halves c = best_halves _ _ _ _ c.in-Some.ensures c.branch_at.ensures.column c.branch_at.ensures.middle
