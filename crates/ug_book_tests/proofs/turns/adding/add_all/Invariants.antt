use Rattle.ug_book_tests.specs.Passes.{IsPass}
use Rattle.ug_book_tests.proofs.turns.adding.add_all.Given as goal

abbrev pub invariant-loop-number : goal.invariant-loop-number
invariant-loop-number g l = IsPass l.turn.table.shared.table_id l.pass l.seat
