use Rattle.ug_threads.proofs.Traces.{seat_taken, seat_untaken}
use Rattle.ug_threads.proofs.desk_seat.DeskSeatSeat.take.Goals as goal

pub returns-clause-took : goal.returns-clause-took
returns-clause-took g c round_count s =
    seat_taken c.args.self.now.desk.now c.take-took.result c.args.self.now.pass c.take-took.new.pass
    c.args.self.now.asked round_count c.take-took.ensures.taken s

pub returns-clause-err : goal.returns-clause-err
returns-clause-err g c =
    seat_untaken c.args.self.now.desk.now c.take-took.result c.args.self.now.pass c.take-took.new.pass
    c.args.self.now.asked c.requires.at.0 c.take-took.ensures.taken c.requires.at.1
