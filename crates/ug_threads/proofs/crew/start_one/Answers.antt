use denote.Param.Send.{IsSend, IsSync, sendable}
use Rattle.std.proofs.Crossing.{crosses}
use Rattle.ug_book.specs.contracts.opening.Opening
use Rattle.ug_snapshot.specs.contracts.snapshot.Snapshot
use Rattle.ug_threads.specs.contracts.pace.Pace
use Rattle.ug_desk.proofs.Crossing.{desk_sync, pass_send}
use Rattle.ug_threads.proofs.crew.start_one.Goals as goal

opening_sync : IsSync Opening.the_row
opening_sync = search (crosses, sendable) depth 60 fits 20000

snapshot_send : IsSend Snapshot.the_row
snapshot_send = search (crosses, sendable) depth 60 fits 20000

pace_sync : IsSync Pace.the_row
pace_sync = search (crosses, sendable) depth 60 fits 20000

pub spawn_with-requires-send-F : goal.spawn_with-requires-send-F
spawn_with-requires-send-F g c κs within =
    let s = c.type_bounds.sync-R in
    let o = c.type_bounds.sync-O in
    search (pass_send, desk_sync, opening_sync, snapshot_send, pace_sync, crosses, sendable) depth 60 fits 20000

pub spawn_with-requires-send-T : goal.spawn_with-requires-send-T
spawn_with-requires-send-T g c κs within =
    search (pass_send, crosses, sendable) depth 60 fits 20000
