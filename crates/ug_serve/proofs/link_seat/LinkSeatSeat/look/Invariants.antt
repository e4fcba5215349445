use Rattle.std.proofs.Common.{◌≡◌, Some}
use Rattle.ug_problem.specs.Better.{IsSmallCutoff}
use Rattle.ug_worker.specs.declared.round_count.RoundCount.{RoundCount}
use Rattle.ug_worker.specs.Engagements.{Engaged}
use Rattle.ug_serve.specs.Seats.{IsGoing, IsSeated}
use Rattle.ug_serve.specs.SeatViews.{seat_seen}
use Rattle.ug_serve.proofs.link_seat.LinkSeatSeat.look.Given as goal

abbrev pub invariant-loop : goal.invariant-loop
invariant-loop g l = record {
  small : IsSmallCutoff l.cutoff;
  going : (round_count : RoundCount) (e : Engaged)
      → IsSeated (seat_seen g.L.Link.seen l.initial.self.wire l.initial.self.kept) round_count (Some e)
      → e.made ≡ 0 → IsGoing (seat_seen g.L.Link.seen l.self.wire l.self.kept) round_count e.task l.cutoff;
}
