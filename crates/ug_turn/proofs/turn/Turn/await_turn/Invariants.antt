use Rattle.std.proofs.Common.{◌≡◌}
use Rattle.ug_turn.specs.Seats.{IsWaiting, lock_of, view_of}
use Rattle.ug_turn.proofs.turn.Turn.await_turn.Given as goal

abbrev pub invariant-loop : goal.invariant-loop
invariant-loop g l =
    (goal.iterator-loop g).can_next l.iterator' × (goal.iterator-loop g).is_finite l.iterator'
    × (lock_of l.seat ≡ l.self.table.shared.table_id) × (lock_of l.seat ≡ lock_of l.initial.seat) × IsWaiting 0 l.seat
    × (view_of l.seat ≡ view_of l.initial.seat)
