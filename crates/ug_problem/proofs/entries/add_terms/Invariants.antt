use Rattle.std.proofs.Common.{◌≡◌, ℕ, ◌<◌, ◌++◌, length, take}
use Rattle.ug_problem.specs.ColumnEntries.{entries_at, entries_in}
use Rattle.ug_problem.proofs.entries.add_terms.Given as goal

-- each list has the standings of the terms so far behind those that it had
abbrev pub invariant-loop-term : goal.invariant-loop-term
invariant-loop-term l = (j : ℕ) → j < length l.lists
    → entries_at l.lists j ≡ entries_at l.initial.lists j ++ entries_in j l.row (take l.term-index l.terms)
