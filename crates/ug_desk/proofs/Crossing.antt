-- Threads may share a desk, and take its passes with them.
use denote.Param.Send.{IsSend, IsSync, recorded_send, recorded_sync, sendable, struct_send, struct_sync, view_send}
use denote.Struct.Declared
use Rattle.std.proofs.Crossing.{crosses}
use Rattle.ug_book.specs.contracts.opening.Opening
use Rattle.ug_turn.proofs.Crossing.{seat_field_send, turn_field_sync}
use Rattle.ug_desk.proofs.locked_book.LockedBook.TheSendSync as locked_book
use Rattle.ug_desk.specs.contracts.desk.Desk
use Rattle.ug_desk.specs.contracts.entry.Entry
use Rattle.ug_desk.specs.contracts.pass.Pass
use Rattle.ug_desk.specs.contracts.pass.Pass.TheInside as inside
use Rattle.ug_desk.specs.contracts.locked_book.LockedBook
use Rattle.ug_desk.specs.contracts.locked_book.LockedBookLasting.TheImpl as lasting

pub pass_send : IsSend Pass.the_row
pass_send = view_send _ _ _ _ _ (
    let T = inside.the_type in
    recorded_send (inside.the_field).row _ _ T.to_one
    (struct_send (Declared.shape T) (search sendable, (search sendable, (search sendable, (seat_field_send LockedBook.the_row Opening.the_row Entry.the_row locked_book.the_send, tt))))))

pub desk_sync : IsSync Desk.the_row
desk_sync =
    let T = Desk.the_type in
    recorded_sync (Desk.the_field).row _ _ T.to_one
    (struct_sync (Declared.shape T) (
      turn_field_sync LockedBook.the_row Opening.the_row Entry.the_row lasting.ghosts locked_book.the_send,
      (search (crosses, sendable) depth 60 fits 20000, tt),
    ))
