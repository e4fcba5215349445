use Rattle.std.proofs.Common.{Some, subst}
use Rattle.std.specs.Prelude.{ℤ}
use mir.Syntax.{w128}
use Rattle.std.proofs.lemmas.Int.{to_z-of_z}
use Rattle.ug_desk.specs.Histories.{stated}
use Rattle.ug_desk.specs.Passes.{HasCalledAt}
use Rattle.ug_threads.proofs.Traces.{seat_answered, seat_unanswered, stayed_then}
use Rattle.ug_threads.proofs.desk_seat.DeskSeatSeat.state.Goals as goal

pub returns-clause-replied : goal.returns-clause-replied
returns-clause-replied g c round_count e f s told =
    let called = subst (λ (z : ℤ). HasCalledAt (Some (stated c.args.left z c.state-reply.result))
    c.state-reply.ensures.called.0 c.args.self.now.pass c.state-reply.new.pass)
    (to_z-of_z w128 c.args.floor c.ranges.floor) c.state-reply.ensures.called.1 in
    seat_answered c.args.self.now.desk.now c.args.left c.args.floor c.state-reply.result c.answered.result
    c.state-reply.ensures.called.0 c.args.self.now.pass c.state-reply.new.pass c.progress-progress.new.pass
    c.args.self.now.asked c.asked_by-self.result round_count e f c.answered.ensures.ok c.answered.ensures.err
    c.asked_by-self.ensures.ok called
    (stayed_then c.state-reply.new.pass c.send_if_due.new.pass c.progress-progress.new.pass c.send_if_due.ensures
    c.progress-progress.ensures) told s

pub returns-clause-err : goal.returns-clause-err
returns-clause-err g c =
    let (round_count, e, f, s, told) = c.requires.at in
    let called = subst (λ (z : ℤ). HasCalledAt (Some (stated c.args.left z c.state-reply.result))
    c.state-reply.ensures.called.0 c.args.self.now.pass c.state-reply.new.pass)
    (to_z-of_z w128 c.args.floor c.ranges.floor) c.state-reply.ensures.called.1 in
    seat_unanswered c.args.self.now.desk.now c.args.left c.args.floor c.state-reply.result c.answered.result
    c.state-reply.ensures.called.0 c.args.self.now.pass c.state-reply.new.pass c.progress-progress.new.pass
    c.args.self.now.asked c.asked_by-self.result round_count e f c.answered.ensures.ok c.asked_by-self.ensures.err
    called
    (stayed_then c.state-reply.new.pass c.send_if_due.new.pass c.progress-progress.new.pass c.send_if_due.ensures
    c.progress-progress.ensures) told s
