-- The contents of a disk in memory, and how the record of each change shows what was before.
use Rattle.std.specs.Prelude.{◌≡◌, ℕ, ◌+◌, ◌-◌, List, [], ◌∷◌, ◌++◌, length, take, drop, reverse}
use Rattle.std.specs.Prelude.{IsTrue}
use Rattle.ug_disk.specs.declared.slot.Slot.{Slot}
use Rattle.ug_disk.specs.declared.slot.Slot.TheVariants.{Zero, One}
use Rattle.ug_disk.specs.declared.undo.Undo.{Undo}
use Rattle.ug_disk.specs.declared.undo.Kept.{Kept}
use Rattle.ug_disk.specs.declared.undo.Kept.TheVariants.{Bytes, Pending}
use Rattle.ug_disk.specs.declared.memory.MemoryDisk.{MemoryDisk}
use Rattle.ug_disk.specs.declared.stored.StoredSlots.{StoredSlots}
use Rattle.ug_disk.specs.Slots.{SlotState, MayLeave, synced}
use Rattle.ug_disk.specs.Histories.{Slots, History, slot_of, with_slot}

-- both slots
abbrev pub slots_of : StoredSlots → Slots
slots_of stored = record { zero = stored.zero; one = stored.one }

-- What the slot was before a change: what was written over is back, or what was pending is pending.
abbrev pub restored : Kept → SlotState → SlotState
restored (Bytes at len over longest) slot = record {
  bytes = take at slot.bytes ++ over.items ++ drop (at + len) slot.bytes;
  shortest = slot.shortest;
  longest = longest;
  loose = take (length slot.loose - 1) slot.loose;
}
restored (Pending shortest longest loose) slot = record {
  bytes = slot.bytes;
  shortest = shortest;
  longest = longest;
  loose = loose.items;
}

-- the slots before a change
abbrev pub earlier : Undo → Slots → Slots
earlier undo slots =
    with_slot undo.slot (restored undo.kept (slot_of undo.slot slots)) slots

-- the slots before each of these changes, the latest first
abbrev pub all_earlier : List Undo → Slots → List Slots
all_earlier [] slots = []
all_earlier (undo ∷ undos) slots =
    earlier undo slots ∷ all_earlier undos (earlier undo slots)

-- this happened to a slot, and the record of it shows what was before
pub record HasChanged (slot : Slot) (f : SlotState → SlotState) (old new : StoredSlots)
    (undo : Undo) : Type 0 where
  pub now : slots_of new ≡ with_slot slot (f (slot_of slot (slots_of old))) (slots_of old)
  pub before : earlier undo (slots_of new) ≡ slots_of old

-- what became of a disk so far
abbrev pub history_of : MemoryDisk → History
history_of disk = record {
  now = slots_of disk.slots;
  before = all_earlier (reverse disk.past.items) (slots_of disk.slots);
}

-- how often it has failed
abbrev pub faults_of : MemoryDisk → ℕ
faults_of disk = disk.calls.faults

-- how many calls there were
abbrev pub calls_of : MemoryDisk → ℕ
calls_of disk = disk.calls.count

-- it has stopped
abbrev pub HasStopped : MemoryDisk → Type 0
HasStopped disk = IsTrue disk.calls.is_stopped

-- the history of a disk that begins with these bytes
abbrev pub begun : List ℕ → List ℕ → History
begun zero one = record { now = record { zero = synced zero; one = synced one }; before = [] }

-- a crash may not leave its image of a slot, and of an earlier one it may
abbrev pub IsFirstForbidden : Slots → List ℕ → List ℕ → Slot → Type 0
IsFirstForbidden slots zero one Zero = ¬ MayLeave slots.zero zero
IsFirstForbidden slots zero one One = MayLeave slots.zero zero × (¬ MayLeave slots.one one)
