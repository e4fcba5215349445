use Rattle.std.specs.Prelude.{All}
use Rattle.ug_laws.specs.Events.{IsEvent}
use Rattle.ug_book_tests.proofs.worlds.events_of.Given as goal

abbrev pub invariant-loop-letter : goal.invariant-loop-letter
invariant-loop-letter l = All (IsEvent l.ranks) l.events.items
