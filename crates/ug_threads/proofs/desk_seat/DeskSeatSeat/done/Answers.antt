use Rattle.ug_threads.proofs.Traces.{done_known, done_problem, seat_ended, stay_seated}
use Rattle.std.proofs.Common.{None}
use Rattle.ug_threads.proofs.desk_seat.DeskSeatSeat.done.Goals as goal

pub done-requires-clause-known : goal.done-requires-clause-known
done-requires-clause-known g c =
    let (round_count, e, s, done) = c.requires.at in
    done_known c.args.self.now.pass c.args.self.now.asked e c.args.task done s.its

pub done-requires-clause-problem : goal.done-requires-clause-problem
done-requires-clause-problem g c =
    let (round_count, e, s, done) = c.requires.at in
    done_problem c.args.self.now.pass c.args.self.now.asked e c.args.task done s.its

pub returns-clause-done : goal.returns-clause-done
returns-clause-done g c round_count e s done =
    stay_seated c.args.self.now.desk.now c.done.new.pass c.send_if_due.new.pass c.args.self.now.asked round_count None
    c.send_if_due.ensures
    (seat_ended c.args.self.now.desk.now c.args.task c.done.result c.args.self.now.pass c.done.new.pass
    c.args.self.now.asked round_count e c.done.ensures.ended done s)
