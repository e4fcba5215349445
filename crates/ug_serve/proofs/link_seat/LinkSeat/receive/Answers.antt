use Rattle.std.proofs.Common.{None, refl, subst}
use Rattle.ug_frames.specs.declared.order.Order.TheVariants.{Setup}
use Rattle.ug_serve.specs.Actions.{Free}
use Rattle.ug_serve.specs.SeatViews.{seat_seen}
use Rattle.ug_serve.specs.Seats.{IsOrdered, basis_of}
use Rattle.ug_serve.proofs.Seating.{seated_next}
use Rattle.ug_serve.proofs.link_seat.LinkSeat.receive.Goals as goal

pub returns-in-Work : goal.returns-in-Work
returns-in-Work g c round_count h =
    c.begin.ensures round_count
    (subst (λ order. IsOrdered (seat_seen g.L.Link.seen c.args.self.now.wire c.args.self.now.kept) round_count None order)
    c.in-Work.is h)

pub returns-in-Setup : goal.returns-in-Setup
returns-in-Setup g c round_count h =
    let own = subst (λ order. IsOrdered (seat_seen g.L.Link.seen c.args.self.now.wire c.args.self.now.kept) round_count None order) c.in-Setup.is h in
    c.refuse.ensures (Free (basis_of c.args.self.now.kept) round_count) (Setup c.in-Setup.gap c.in-Setup.record) tt own.next
    (λ new taken. taken)

pub returns-in-End : goal.returns-in-End
returns-in-End g c round_count h =
    let own = subst (λ order. IsOrdered (seat_seen g.L.Link.seen c.args.self.now.wire c.args.self.now.kept) round_count None order) c.in-End.is h in
    c.finish.ensures (Free (basis_of c.args.self.now.kept) round_count) refl own.on own.next

pub returns-in-Incumbent : goal.returns-in-Incumbent
returns-in-Incumbent g c round_count h =
    let own = subst (λ order. IsOrdered (seat_seen g.L.Link.seen c.args.self.now.wire c.args.self.now.kept) round_count None order) c.in-Incumbent.is h in
    seated_next (seat_seen g.L.Link.seen c.args.self.now.wire c.args.self.now.kept) c.args.self.now.kept round_count round_count None None _ own.gap tt own refl

pub returns-in-CollectIn : goal.returns-in-CollectIn
returns-in-CollectIn g c round_count h =
    let own = subst (λ order. IsOrdered (seat_seen g.L.Link.seen c.args.self.now.wire c.args.self.now.kept) round_count None order) c.in-CollectIn.is h in
    seated_next (seat_seen g.L.Link.seen c.args.self.now.wire c.args.self.now.kept) c.args.self.now.kept round_count round_count None None _ own.gap tt own refl

pub returns-in-CollectOut : goal.returns-in-CollectOut
returns-in-CollectOut g c round_count h =
    let own = subst (λ order. IsOrdered (seat_seen g.L.Link.seen c.args.self.now.wire c.args.self.now.kept) round_count None order) c.in-CollectOut.is h in
    seated_next (seat_seen g.L.Link.seen c.args.self.now.wire c.args.self.now.kept) c.args.self.now.kept round_count round_count None None _ own.gap tt own refl

pub returns-in-Winner : goal.returns-in-Winner
returns-in-Winner g c round_count h =
    let own = subst (λ order. IsOrdered (seat_seen g.L.Link.seen c.args.self.now.wire c.args.self.now.kept) round_count None order) c.in-Winner.is h in
    seated_next (seat_seen g.L.Link.seen c.args.self.now.wire c.args.self.now.kept) c.args.self.now.kept round_count round_count None None _ own.gap tt own refl

pub returns : goal.returns
returns g c round_count h =
    let own = subst (λ order. IsOrdered (seat_seen g.L.Link.seen c.args.self.now.wire c.args.self.now.kept) round_count None order) c.in-Stop.is h in
    seated_next (seat_seen g.L.Link.seen c.args.self.now.wire c.args.self.now.kept) c.args.self.now.kept round_count round_count None None _ own.gap tt own refl
