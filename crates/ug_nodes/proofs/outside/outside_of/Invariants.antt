use Rattle.ug_nodes.specs.Steps.{ArePassed}
use Rattle.ug_nodes.proofs.outside.outside_of.Given as goal

abbrev pub invariant-loop-i : goal.invariant-loop-i
invariant-loop-i l = ArePassed l.root l.told l.changes l.i l.at
