use Rattle.std.specs.Prelude.{All}
use Rattle.ug_laws.specs.DiskEvents.{IsDiskEvent}
use Rattle.ug_book_tests.proofs.crashes.schedules.events_of.Given as goal

abbrev pub invariant-loop-letter : goal.invariant-loop-letter
invariant-loop-letter l = All IsDiskEvent l.events.items
