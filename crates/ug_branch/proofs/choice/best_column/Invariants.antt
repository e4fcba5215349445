use Rattle.ug_branch.specs.Choices.{IsBest}
use Rattle.ug_branch.proofs.choice.best_column.Given as goal

abbrev pub invariant-loop-c : goal.invariant-loop-c
invariant-loop-c l = IsBest l.params l.sides l.c l.best
