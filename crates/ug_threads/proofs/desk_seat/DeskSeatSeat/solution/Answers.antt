use Rattle.std.proofs.Common.{Some, None}
use Rattle.ug_threads.proofs.Traces.{seat_dropped, seat_found, stay_seated, stayed_then, match_both}
use Rattle.ug_threads.proofs.desk_seat.DeskSeatSeat.solution.Goals as goal

pub returns-clause-found : goal.returns-clause-found
returns-clause-found g c round_count e f s found =
    let d = c.args.self.now.desk.now in
    let asked = c.args.self.now.asked in
    let stayed = stayed_then c.solution-heard.new.pass c.send_if_due.new.pass c.progress-progress.new.pass
    c.send_if_due.ensures c.progress-progress.ensures in
    match_both c.goes_on.result _ _ _ _
    (λ well. stay_seated d c.solution-heard.new.pass c.progress-progress.new.pass asked round_count (Some f) stayed
    (seat_found d c.args.point c.solution-heard.result c.solution-heard.ensures.0 c.args.self.now.pass
    c.solution-heard.new.pass asked round_count e f c.solution-heard.ensures.1 found s well))
    (λ ill. stay_seated d c.solution-heard.new.pass c.progress-progress.new.pass asked round_count None stayed
    (seat_dropped d c.args.point c.solution-heard.result c.solution-heard.ensures.0 c.args.self.now.pass
    c.solution-heard.new.pass asked round_count e f c.solution-heard.ensures.1 found s ill))
    c.goes_on.ensures
