use Rattle.std.proofs.Common.{rules}
use Rattle.ug_threads.proofs.Traces.{seat_looked}
use Rattle.ug_threads.proofs.desk_seat.DeskSeatSeat.look.Goals as goal

pub returns-clause-replied : goal.returns-clause-replied
returns-clause-replied g c round_count e s made =
    seat_looked c.args.self.now.desk.now c.args.self.now.pass c.args.self.now.asked round_count e _ s made (search rules)
