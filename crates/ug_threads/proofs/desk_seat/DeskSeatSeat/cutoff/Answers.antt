use Rattle.ug_threads.proofs.Traces.{seat_read}
use Rattle.ug_threads.proofs.desk_seat.DeskSeatSeat.cutoff.Goals as goal

pub returns-clause-known : goal.returns-clause-known
returns-clause-known g c round_count e s made =
    seat_read c.args.self.now.desk.now c.cutoff.result c.cutoff_of_point.result c.args.self.now.pass c.cutoff.new.pass
    c.args.self.now.asked round_count e c.cutoff.ensures.looked c.cutoff_of_point.ensures.some s made
