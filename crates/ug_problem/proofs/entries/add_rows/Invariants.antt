use Rattle.std.proofs.Common.{length, take}
use Rattle.ug_problem.specs.ColumnEntries.{AreGathered, terms_of_rows}
use Rattle.ug_problem.proofs.entries.add_rows.Given as goal

-- the lists have the standings in the rows so far
abbrev pub invariant-loop-r : goal.invariant-loop-r
invariant-loop-r l = AreGathered (terms_of_rows (take l.r l.rows)) (length l.initial.lists) l.lists
