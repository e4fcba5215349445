use Rattle.std.proofs.Common.{◌≡◌, ◌-◌, [], vec_len}
use Rattle.ug_turn.specs.Seats.{AreNewSeats}
use Rattle.ug_turn.proofs.turn.Turn.seats.Given as goal

abbrev pub invariant-loop : goal.invariant-loop
invariant-loop g l =
    (vec_len l.seats ≡ l.counter) × (l.maker.table_id ≡ l.self.table.shared.table_id)
    × (l.maker.me ≡ (record l.initial.maker.me.0 { parts = l.passes - l.counter; pass = l.counter }, []))
    × AreNewSeats l.self.table.shared.table_id l.initial.maker.me.0 l.seats.items
