-- A disk of two slots, and what became of it so far, call by call. A crash during a call leaves
-- what it may leave before the call or after it.
use Rattle.std.specs.Prelude.{◌≡◌, ◌⊎◌, ℕ, List, ◌∷◌, Option, IfSome}
use Rattle.std.specs.Option.{option_map}
use Rattle.ug_disk.specs.declared.slot.Slot.{Slot}
use Rattle.ug_disk.specs.declared.slot.Slot.TheVariants.{Zero, One}
use Rattle.ug_disk.specs.Slots.{SlotState, MayLeave, IsReal}

-- the two slots at one moment
pub record Slots : Type 0 where
  pub zero : SlotState
  pub one : SlotState

-- the state of a slot
abbrev pub slot_of : Slot → Slots → SlotState
slot_of Zero slots = slots.zero
slot_of One slots = slots.one

-- the slots with another state of one of them
abbrev pub with_slot : Slot → SlotState → Slots → Slots
with_slot Zero state slots = record slots { zero = state }
with_slot One state slots = record slots { one = state }

-- A history: the slots now, and at each moment before, the latest first.
pub record History : Type 0 where
  pub now : Slots
  pub before : List Slots

-- all its moments, the latest first
abbrev pub moments : History → List Slots
moments history = history.now ∷ history.before

-- one moment more, in which this became of a slot
abbrev pub stepped : Slot → (SlotState → SlotState) → History → History
stepped slot change history = record {
  now = with_slot slot (change (slot_of slot history.now)) history.now;
  before = moments history;
}

-- a disk as it is seen: the history of its slots, if it shows it, and the number of failed calls
pub record DiskSeen : Type 0 where
  pub told : Option History
  pub faults : ℕ

-- this happened to a slot, and nothing else changed, if the disk shows it
abbrev pub Steps : Option History → Option History → Slot → (SlotState → SlotState) → Type 0
Steps old new slot change = new ≡ option_map (stepped slot change) old

-- This became of a slot but for what a read gives, which is one of the images that a crash may
-- leave.
pub record Shakes (old new : Option History) (slot : Slot) (change : SlotState → SlotState)
    : Type 0 where
  pub bytes : List ℕ
  pub real : IfSome old (λ history. MayLeave (change (slot_of slot history.now)) bytes)
  pub steps : Steps old new slot (λ state. record (change state) { bytes = bytes })

-- A call on a slot failed: it did nothing, or it ended on its way.
abbrev pub Fails : Option History → Option History → Slot → (SlotState → SlotState) → Type 0
Fails old new slot change = (new ≡ old) ⊎ Shakes old new slot change

-- if the disk shows it, what a read of the slot returns satisfies this
abbrev pub Reads : Option History → Slot → (List ℕ → Type 0) → Type 0
Reads told slot P = IfSome told (λ history. P (slot_of slot history.now).bytes)

-- what a read gives is one of the images that a crash may leave, for both slots
abbrev pub AreReal : Option History → Type 0
AreReal told = IfSome told (λ history. IsReal history.now.zero × IsReal history.now.one)
