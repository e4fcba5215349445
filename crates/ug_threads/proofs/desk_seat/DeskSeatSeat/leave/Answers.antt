use Rattle.ug_threads.proofs.Traces.{seat_gone}
use Rattle.ug_threads.proofs.desk_seat.DeskSeatSeat.leave.Goals as goal

pub returns-clause-over : goal.returns-clause-over
returns-clause-over g c =
    let (round_count, some, s) = c.requires in
    seat_gone c.args.self.now.desk.now c.args.self.now.pass c.leave.new.pass c.args.self.now.asked round_count some
    c.leave.ensures s
