-- Threads may share a lock, and take its seats with them, where they may take the value.
use mir.Syntax.{given}
use denote.RattleType.{RattleType}
use denote.Param.Send.{IsSend, IsSync, recorded_send, recorded_sync, sendable}
use denote.Param.Send.{struct_send, struct_sync}
use denote.Struct.Declared
use Rattle.std.below.std_heap.proofs.GlobalAllocator.TheSendSync as freeing
use Rattle.std.proofs.Crossing.{crosses}
use Rattle.std.proofs.alloc.Global.TheSendSync as heap
use Rattle.std.specs.contracts.alloc.Global
use Rattle.std.specs.contracts.impls.GlobalAllocator.TheImpl.{ghosts}
use Rattle.std.specs.contracts.option.Option
use Rattle.atomic_table.proofs.owned.Table.TheSendSync as table
use Rattle.atomic_table.proofs.shared.Seat.TheSendSync as place
use Rattle.ug_turn.proofs.entry_mutex.EntryMutex.TheSendSync as entry_mutex
use Rattle.ug_turn.specs.declared.lasting.Lasting.{Ghosts}
use Rattle.ug_turn.specs.contracts.held.Held
use Rattle.ug_turn.specs.contracts.rule.InTurns
use Rattle.ug_turn.specs.contracts.rule.InTurnsTableRuleOptionHeldEntryViewOpeningEntryKey.TheImpl as rule
use Rattle.ug_turn.specs.contracts.rule.Key
use Rattle.ug_turn.specs.contracts.seat.Seat
use Rattle.ug_turn.specs.contracts.turn.Turn
use Rattle.ug_turn.specs.contracts.view.View

held_send : (V E : RattleType) → IsSend V → IsSend (Held.the_row V E)
held_send V E s = search (crosses, sendable) depth 60 fits 20000

slot_send : (V E : RattleType) → IsSend V → IsSend (Option.the_row (Held.the_row V E))
slot_send V E s = search (held_send, crosses, sendable) depth 60 fits 20000

-- a seat may go to another thread, also as a field
pub seat_field_send : (V O E : RattleType) → IsSend V → IsSend (Seat.the_field V O E).row
seat_field_send V O E s =
    struct_send (Declared.shape (Seat.the_type V O E))
    (place.the_send _ _ (slot_send V E s), (search sendable, tt))

pub seat_send : (V O E : RattleType) → IsSend V → IsSend (Seat.the_row V O E)
seat_send V O E s =
    recorded_send (Seat.the_field V O E).row _ _ (Seat.the_type V O E).to_one (seat_field_send V O E s)

-- a lock may be shared, also as a field
pub turn_field_sync : (V O E : RattleType) (g : Ghosts V.Denot O.Denot E.Denot) → IsSend V
    → IsSync (Turn.the_field V O E g).row
turn_field_sync V O E g s =
    struct_sync (Declared.shape (Turn.the_type V O E g)) (
      table.the_field_sync (Option.the_row (Held.the_row V E)) (View.the_row O E) (Key.the_row V) (InTurns.the_row V)
          Global.the_row (rule.ghosts V O E g (given 0) (given 0)) ghosts (slot_send V E s)
          heap.the_send heap.the_sync freeing.the_frees,
      (entry_mutex.the_field_sync, tt),
    )

pub turn_sync : (V O E : RattleType) (g : Ghosts V.Denot O.Denot E.Denot) → IsSend V
    → IsSync (Turn.the_row V O E g)
turn_sync V O E g s =
    recorded_sync (Turn.the_field V O E g).row _ _ (Turn.the_type V O E g).to_one (turn_field_sync V O E g s)
