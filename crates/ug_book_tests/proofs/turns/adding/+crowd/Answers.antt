use denote.Param.Send.{sendable}
use Rattle.std.proofs.Crossing.{crosses}
use Rattle.ug_book_tests.proofs.turns.Crossing.{chronicle_seat, chronicle_sync}
use Rattle.ug_book_tests.proofs.turns.adding.+crowd.Goals as goal

pub join-mine-requires-send-F : goal.join-mine-requires-send-F
join-mine-requires-send-F g t c κs within =
    search (chronicle_sync, chronicle_seat, crosses, sendable) depth 60 fits 20000
