use Rattle.std.proofs.Common.{◌≡◌, ◌+◌, ◌≤◌, [], length, take}
use Rattle.std.specs.Prelude.{All}
use Rattle.ug_rules.specs.Books.{HasItsFloor}
use Rattle.ug_book.specs.Starts.{start_entries, with_entries}
use Rattle.ug_book.proofs.start.start_pool.Given as goal

abbrev pub invariant-loop-changes : goal.invariant-loop-changes
invariant-loop-changes l =
    (l.hand ≡ l.changes-index)
    × (l.pool.entries
    ≡ with_entries (start_entries l.run.problem l.run.number 0 (take l.changes-index l.changes-items)) [])
    × All (HasItsFloor l.run.problem) l.pool.entries
    × (length l.changes-items ≤ l.pool.spare + l.changes-index)
