use Rattle.std.proofs.Common.{◌≡◌, ◌++◌, List, length}
use Rattle.ug_turn.specs.declared.seat.Seat.{Seat}
use Rattle.ug_turn.specs.Seats.{HasGathered, IsGathering, view_of}
use Rattle.ug_turn.proofs.turn.Turn.gather.Given as goal

abbrev pub invariant-loop-seat : goal.invariant-loop-seat
invariant-loop-seat g l =
    (gone : List (Seat g.row.V.Denot g.row.V-Opening.Denot g.row.V-Entry.Denot))
    × (l.initial.seats.items ≡ l.seats.items ++ gone) × IsGathering l.self.table.shared.table_id l.last
    × HasGathered (view_of l.initial.last) gone (view_of l.last)

abbrev pub decreases-loop-seat : goal.decreases-loop-seat
decreases-loop-seat g l = length l.seats.items
