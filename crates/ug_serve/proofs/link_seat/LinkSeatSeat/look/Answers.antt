use Rattle.ug_serve.specs.Actions.{Busy}
use Rattle.ug_serve.specs.Seats.{basis_of}
use Rattle.ug_serve.proofs.link_seat.LinkSeatSeat.look.Goals as goal

pub returns-in_default-clause-replied : goal.returns-in_default-clause-replied
returns-in_default-clause-replied g c round_count e seated made =
    let going = c.loop.invariant.going round_count e seated made in
    c.reply.ensures.replied round_count e.task (record {
      now = going.now;
      seated = record {
        gap = going.seated.gap;
        agrees = going.seated.agrees;
        stands = c.in_default.ensures (Busy (basis_of c.loop.self.kept) round_count going.now) tt going.seated.stands;
      };
      made = going.made;
      its = going.its;
    })

pub returns-then-not-obey-clause-replied : goal.returns-then-not-obey-clause-replied
returns-then-not-obey-clause-replied g c round_count e seated made =
    let going = c.loop.invariant.going round_count e seated made in
    let next = c.in-Some.ensures (Busy (basis_of c.loop.self.kept) round_count going.now) tt going.seated.stands in
    c.if-not-obey.ensures.obeyed round_count going.now e.task going.made
    (record { gap = going.seated.gap; agrees = going.seated.agrees; on = next.0; next = next.1 }) going.its
