use Rattle.ug_surrogate.specs.Subgradients.{AreOfRowsBelow}
use Rattle.ug_surrogate.proofs.subgradient.listed.Given as goal

abbrev pub invariant-loop-row : goal.invariant-loop-row
invariant-loop-row l = AreOfRowsBelow l.problem l.row l.list.items
