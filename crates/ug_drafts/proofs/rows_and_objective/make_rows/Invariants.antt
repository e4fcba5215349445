use Rattle.ug_drafts.proofs.Passes.{AreRowsMade}
use Rattle.ug_drafts.proofs.rows_and_objective.make_rows.Given as goal

abbrev pub invariant-loop-name : goal.invariant-loop-name
invariant-loop-name l = AreRowsMade l.maximise l.yielded l.parts
