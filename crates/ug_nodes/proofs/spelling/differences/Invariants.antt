use Rattle.ug_nodes.specs.Steps.{IsToldTo}
use Rattle.ug_nodes.proofs.spelling.differences.Given as goal

abbrev pub invariant-loop-j : goal.invariant-loop-j
invariant-loop-j l = IsToldTo l.j l.root l.area l.changes.items
