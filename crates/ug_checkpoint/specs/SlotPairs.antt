-- What a slot pair of two slots knows, and which of them is the next that it writes.
use Rattle.std.specs.Prelude.{Option, None, Some, IfSome}
use Rattle.ug_disk.specs.declared.slot.Slot.{Slot}
use Rattle.ug_disk.specs.declared.slot.Slot.TheVariants.{Zero, One}
use Rattle.ug_disk.specs.Histories.{History}
use Rattle.ug_checkpoint.specs.declared.slots.gate.Gate.{Gate}
use Rattle.ug_checkpoint.specs.declared.slots.slot_pair.SlotPair.{SlotPair}
use Rattle.ug_checkpoint.specs.Gates.{IsGate}
use Rattle.ug_checkpoint.specs.Runs.{other}

-- the slot that has what was acknowledged last, if something was
abbrev pub last_of : SlotPair → Option Slot
last_of slot_pair = slot_pair.last

-- the slot that is not the last one, and Zero where there is none
abbrev pub next_after : Option Slot → Slot
next_after None = Zero
next_after (Some slot) = other slot

-- the slot that the next save writes
abbrev pub target_of : SlotPair → Slot
target_of slot_pair = next_after slot_pair.last

-- the known state of a slot's gate
abbrev pub gate_of : Slot → SlotPair → Gate
gate_of Zero slot_pair = slot_pair.zero
gate_of One slot_pair = slot_pair.one

-- the same keeper, but for what is known of a slot's gate
abbrev pub with_gate : Slot → Gate → SlotPair → SlotPair
with_gate Zero gate slot_pair = record slot_pair { zero = gate }
with_gate One gate slot_pair = record slot_pair { one = gate }

-- what the slot pair knows of the gates is so, where it is known
abbrev pub Knows : SlotPair → Option History → Type 0
Knows slot_pair told = IfSome told (λ history.
    IsGate slot_pair.zero history.now.zero × IsGate slot_pair.one history.now.one)
