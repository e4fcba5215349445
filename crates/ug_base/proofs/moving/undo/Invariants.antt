use Rattle.std.proofs.Common.{◌≡◌, drop}
use Rattle.ug_propagate.specs.Working.{undone}
use Rattle.ug_base.proofs.moving.undo.Given as goal

abbrev pub invariant-loop-at : goal.invariant-loop-at
invariant-loop-at l = l.sides ≡ undone l.initial.sides (drop l.at l.changes)
