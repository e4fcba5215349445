use denote.Param.Send.{sendable}
use Rattle.std.proofs.Crossing.{crosses}
use Rattle.ug_book_tests.proofs.turns.Crossing.{chronicle_seat, chronicle_sync}
use Rattle.ug_book_tests.proofs.turns.tests.wait_for.Goals as goal

pub join-requires-send-F : goal.join-requires-send-F
join-requires-send-F g c κs within =
    let s = c.type_bounds.sync-R in
    search (chronicle_sync, chronicle_seat, crosses, sendable) depth 60 fits 20000
