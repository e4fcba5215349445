use Rattle.ug_branch.specs.Choices.{AreClosed}
use Rattle.ug_base.proofs.split.closed_from.Given as goal

abbrev pub invariant-loop-c : goal.invariant-loop-c
invariant-loop-c l = AreClosed l.c l.sides
