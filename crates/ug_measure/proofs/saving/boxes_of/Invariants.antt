use Rattle.std.specs.Prelude.{All}
use Rattle.ug_nodes.specs.Changes.{AreChangesOf}
use Rattle.ug_measure.proofs.saving.boxes_of.Given as goal

abbrev pub invariant-loop-number : goal.invariant-loop-number
invariant-loop-number l = All (AreChangesOf l.root) l.boxes
