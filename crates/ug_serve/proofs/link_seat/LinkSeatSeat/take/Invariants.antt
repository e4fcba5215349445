use Rattle.std.proofs.Common.{None}
use Rattle.ug_worker.specs.declared.round_count.RoundCount.{RoundCount}
use Rattle.ug_serve.specs.Seats.{IsSeated}
use Rattle.ug_serve.specs.SeatViews.{seat_seen}
use Rattle.ug_serve.proofs.link_seat.LinkSeatSeat.take.Given as goal

abbrev pub invariant-loop : goal.invariant-loop
invariant-loop g l = record {
  some : (round_count : RoundCount) × IsSeated (seat_seen g.L.Link.seen l.self.wire l.self.kept) round_count None;
  each : (round_count : RoundCount) → IsSeated (seat_seen g.L.Link.seen l.initial.self.wire l.initial.self.kept) round_count None
      → IsSeated (seat_seen g.L.Link.seen l.self.wire l.self.kept) round_count None;
}
