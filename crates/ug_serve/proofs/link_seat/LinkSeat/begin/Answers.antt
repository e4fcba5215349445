use Rattle.std.proofs.Common.{subst}
use Rattle.ug_frames.specs.declared.order.Order.TheVariants.{Work}
use Rattle.ug_serve.specs.Actions.{Free}
use Rattle.ug_serve.specs.SeatViews.{seat_seen}
use Rattle.ug_serve.specs.Seats.{basis_of}
use Rattle.ug_problem.specs.Instances.{root_of}
use Rattle.ug_nodes.specs.Changes.{IsAreaRefused}
use Rattle.ug_serve.proofs.Seating.{begun_seated}
use Rattle.ug_serve.proofs.link_seat.LinkSeat.begin.Goals as goal

pub returns-in-Ok : goal.returns-in-Ok
returns-in-Ok g c round_count h =
    begun_seated (seat_seen g.L.Link.seen c.args.self.now.wire c.args.self.now.kept) round_count c.args.ticket c.args.params
    c.args.race c.args.cutoff c.args.changes.now c.in-Ok.task h c.in-Ok.ensures

pub returns-in-Err-Outside : goal.returns-in-Err-Outside
returns-in-Err-Outside g c round_count h =
    let bad = subst (λ why. IsAreaRefused (root_of c.args.self.now.kept.problem) c.args.changes.now why)
    c.in-Err-Outside.field-0-is c.in-Err-Outside.ensures in
    c.refuse.ensures (Free (basis_of c.args.self.now.kept) round_count)
    (Work c.args.ticket c.args.params c.args.race c.args.cutoff c.args.changes.now) tt h.next
    (λ new taken. bad.bad (taken.valid bad.at bad.there))

pub returns-in-Err-Memory : goal.returns-in-Err-Memory
returns-in-Err-Memory g c round_count h =
    c.want.ensures.next (Free (basis_of c.args.self.now.kept) round_count)
    (Work c.args.ticket c.args.params c.args.race c.args.cutoff c.args.changes.now) h.on h.next
