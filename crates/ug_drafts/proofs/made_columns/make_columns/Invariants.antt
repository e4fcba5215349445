use Rattle.ug_drafts.proofs.Passes.{AreColumnsMade}
use Rattle.ug_drafts.proofs.made_columns.make_columns.Given as goal

abbrev pub invariant-loop-name : goal.invariant-loop-name
invariant-loop-name l = AreColumnsMade l.boxed l.yielded l.columns.items
