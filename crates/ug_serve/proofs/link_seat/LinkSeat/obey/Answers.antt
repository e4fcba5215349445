use Rattle.std.proofs.Common.{rules, Some, refl, sym, ap, subst, ◌∙◌}
use Rattle.std.proofs.Common.{arith}
use Rattle.ug_base.specs.Tasks.{lesser_of}
use Rattle.std.proofs.lemmas.Int.{fits_signed_from_abs, to_z-of_z}
use mir.Syntax.{w128}
use Rattle.ug_frames.specs.declared.order.Order.TheVariants.{Setup, Work}
use Rattle.ug_serve.specs.Seats.{IsGoing}
use Rattle.ug_serve.specs.Actions.{Busy}
use Rattle.ug_serve.specs.SeatViews.{seat_seen}
use Rattle.ug_serve.specs.Seats.{IsOrdered, basis_of}
use Rattle.ug_serve.proofs.Seating.{stop_obeyed, asked_going, lowered_going, seated_ended, won_going}
use Rattle.ug_serve.proofs.link_seat.LinkSeat.obey.Goals as goal

pub returns-in-Incumbent-clause-obeyed : goal.returns-in-Incumbent-clause-obeyed
returns-in-Incumbent-clause-obeyed g c round_count e task made h same =
    let own = subst (λ order. IsOrdered (seat_seen g.L.Link.seen c.args.self.now.wire c.args.self.now.kept) round_count (Some e) order) c.in-Incumbent.is h in
    subst (λ value. IsGoing (seat_seen g.L.Link.seen c.args.self.now.wire c.args.self.now.kept) round_count task (Some value))
    (sym (to_z-of_z w128 c.lower_of.result (search rules) ∙ c.lower_of.ensures
    ∙ ap (lesser_of c.args.cutoff.now) (to_z-of_z w128 c.in-Incumbent.told
    (fits_signed_from_abs w128 c.in-Incumbent.told (omega (arith, own.next.given.carried.can.fields))))))
    (lowered_going (seat_seen g.L.Link.seen c.args.self.now.wire c.args.self.now.kept) round_count e c.in-Incumbent.told task c.args.cutoff.now made own same)

pub returns-in-CollectIn-clause-obeyed : goal.returns-in-CollectIn-clause-obeyed
returns-in-CollectIn-clause-obeyed g c round_count e task made h same =
    let own = subst (λ order. IsOrdered (seat_seen g.L.Link.seen c.args.self.now.wire c.args.self.now.kept) round_count (Some e) order) c.in-CollectIn.is h in
    asked_going (seat_seen g.L.Link.seen c.args.self.now.wire c.args.self.now.kept) c.ask.new.self round_count e c.in-CollectIn.ticket c.in-CollectIn.count _ task c.args.cutoff.now made own
    c.ask.ensures same (λ new taken. taken)

pub returns-in-CollectOut-clause-obeyed : goal.returns-in-CollectOut-clause-obeyed
returns-in-CollectOut-clause-obeyed g c round_count e task made h same =
    let own = subst (λ order. IsOrdered (seat_seen g.L.Link.seen c.args.self.now.wire c.args.self.now.kept) round_count (Some e) order) c.in-CollectOut.is h in
    asked_going (seat_seen g.L.Link.seen c.args.self.now.wire c.args.self.now.kept) c.ask-in-CollectOut.new.self round_count e c.in-CollectOut.ticket 0 _ task c.args.cutoff.now made own
    c.ask-in-CollectOut.ensures same (λ new taken. taken)

pub returns-in-Winner-clause-obeyed : goal.returns-in-Winner-clause-obeyed
returns-in-Winner-clause-obeyed g c round_count e task made h same =
    let own = subst (λ order. IsOrdered (seat_seen g.L.Link.seen c.args.self.now.wire c.args.self.now.kept) round_count (Some e) order) c.in-Winner.is h in
    won_going (seat_seen g.L.Link.seen c.args.self.now.wire c.args.self.now.kept) c.win.new.self round_count e c.in-Winner.ticket task c.args.cutoff.now made own c.win.ensures same

pub returns-in-Stop-clause-obeyed : goal.returns-in-Stop-clause-obeyed
returns-in-Stop-clause-obeyed g c round_count e task made h same =
    let own = subst (λ order. IsOrdered (seat_seen g.L.Link.seen c.args.self.now.wire c.args.self.now.kept) round_count (Some e) order) c.in-Stop.is h in
    stop_obeyed c.is_its.result (seat_seen g.L.Link.seen c.args.self.now.wire c.args.self.now.kept) round_count e c.in-Stop.ticket task c.args.cutoff.now made c.is_its.ensures own same

pub returns-in-End-clause-obeyed : goal.returns-in-End-clause-obeyed
returns-in-End-clause-obeyed g c round_count e task made h same =
    let own = subst (λ order. IsOrdered (seat_seen g.L.Link.seen c.args.self.now.wire c.args.self.now.kept) round_count (Some e) order) c.in-End.is h in
    seated_ended (seat_seen g.L.Link.seen c.finish.new.self c.args.self.now.kept) round_count h.gap
    (c.finish.ensures (Busy (basis_of c.args.self.now.kept) round_count e) (made, refl) h.on own.next)

pub returns-in-Setup-clause-obeyed : goal.returns-in-Setup-clause-obeyed
returns-in-Setup-clause-obeyed g c round_count e task made h same =
    let own = subst (λ order. IsOrdered (seat_seen g.L.Link.seen c.args.self.now.wire c.args.self.now.kept) round_count (Some e) order) c.in-Setup.is h in
    seated_ended (seat_seen g.L.Link.seen c.refuse.new.self c.args.self.now.kept) round_count h.gap
    (c.refuse.ensures (Busy (basis_of c.args.self.now.kept) round_count e) (Setup c.in-Setup.gap c.in-Setup.record) tt own.next
    (λ new taken. taken))

pub returns-clause-obeyed : goal.returns-clause-obeyed
returns-clause-obeyed g c round_count e task made h same =
    let own = subst (λ order. IsOrdered (seat_seen g.L.Link.seen c.args.self.now.wire c.args.self.now.kept) round_count (Some e) order) c.in-Work.is h in
    seated_ended (seat_seen g.L.Link.seen c.refuse-in-Work.new.self c.args.self.now.kept) round_count h.gap
    (c.refuse-in-Work.ensures (Busy (basis_of c.args.self.now.kept) round_count e)
    (Work c.in-Work.ticket c.in-Work.params c.in-Work.race c.in-Work.cutoff c.in-Work.changes) tt own.next
    (λ new taken. taken))
