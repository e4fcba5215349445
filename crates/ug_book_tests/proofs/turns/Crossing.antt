-- Threads may share a lock round a chronicle, and take its seats with them.
use denote.Param.Send.{IsSend, IsSync, sendable}
use denote.Struct.Field.{u32-field}
use Rattle.std.proofs.Crossing.{crosses}
use Rattle.ug_turn.proofs.Crossing.{seat_send, turn_sync}
use Rattle.ug_turn.specs.contracts.seat.Seat
use Rattle.ug_turn.specs.contracts.turn.Turn
use Rattle.ug_book_tests.specs.contracts.turns.chronicle.Chronicle
use Rattle.ug_book_tests.specs.contracts.turns.chronicle.Entry
use Rattle.ug_book_tests.specs.contracts.turns.chronicle.ChronicleLasting.TheImpl as lasting

chronicle_send : IsSend Chronicle.the_row
chronicle_send = search (crosses, sendable) depth 60 fits 20000

pub chronicle_seat : IsSend (Seat.the_row Chronicle.the_row (u32-field).row Entry.the_row)
chronicle_seat = seat_send Chronicle.the_row (u32-field).row Entry.the_row chronicle_send

pub chronicle_sync
    : IsSync (Turn.the_row Chronicle.the_row (u32-field).row Entry.the_row lasting.ghosts)
chronicle_sync =
    turn_sync Chronicle.the_row (u32-field).row Entry.the_row lasting.ghosts chronicle_send
