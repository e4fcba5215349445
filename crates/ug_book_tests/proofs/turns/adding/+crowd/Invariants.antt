use Rattle.std.specs.Prelude.{◌+◌, ◌*◌, length}
use Rattle.ug_book_tests.proofs.turns.adding.+crowd.Given as goal

abbrev pub decreases-add_by_each : goal.decreases-add_by_each
decreases-add_by_each g l = 2 * length l.seats.items

abbrev pub decreases-join+arg3 : goal.decreases-join+arg3
decreases-join+arg3 g l = 2 * length l.seats.items + 1
