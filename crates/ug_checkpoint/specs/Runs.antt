-- What becomes of one of the two slots in a run of calls, while the other stays as it is.
use Rattle.std.specs.Prelude.{◌≡◌, ◌⊎◌, ℕ, List, Option, None, Some, IfSome}
use Rattle.ug_disk.specs.declared.slot.Slot.{Slot}
use Rattle.ug_disk.specs.declared.slot.Slot.TheVariants.{Zero, One}
use Rattle.ug_disk.specs.Slots.{SlotState, MayLeave, synced}
use Rattle.ug_disk.specs.Histories.{History, slot_of}
use Rattle.ug_disk.specs.Crashes.{MayLeaveBoth}
use Rattle.ug_checkpoint.specs.Gates.{IsOpen, IsSynced, Opens, HasBody}

abbrev pub other : Slot → Slot
other Zero = One
other One = Zero

-- of two images that of the slot
abbrev pub bytes_in : Slot → List ℕ → List ℕ → List ℕ
bytes_in Zero zero one = zero
bytes_in One zero one = one

-- the slot stands so, where it is known
abbrev pub Stands : Option History → Slot → (SlotState → Type 0) → Type 0
Stands told slot P = IfSome told (λ history. P (slot_of slot history.now))

-- both slots are synced, where it is known
abbrev pub AreSynced : Option History → Type 0
AreSynced told = IfSome told (λ history. IsSynced history.now.zero × IsSynced history.now.one)

-- The other slot stands as it did, and this one went from a state to one to which R leads, where it
-- is known.
abbrev pub Becomes : Option History → Option History → Slot → (SlotState → SlotState → Type 0)
    → Type 0
Becomes None None slot R = Unit {0}
Becomes None (Some new) slot R = ⊥
Becomes (Some old) None slot R = ⊥
Becomes (Some old) (Some new) slot R =
    (slot_of (other slot) new.now ≡ slot_of (other slot) old.now)
    × R (slot_of slot old.now) (slot_of slot new.now)

-- Of these two images that of the other slot is one that a crash could leave before. That of this
-- slot, if it is open, is one to which Q leads from the slot's state before.
abbrev pub OnlyOpens : Option History → Slot → (SlotState → List ℕ → Type 0) → List ℕ → List ℕ
    → Type 0
OnlyOpens told slot Q zero one = IfSome told (λ history.
    MayLeave (slot_of (other slot) history.now) (bytes_in (other slot) zero one)
    × (IsOpen (bytes_in slot zero one) → Q (slot_of slot history.now) (bytes_in slot zero one)))

-- what a crash could leave of a slot before a save, or the whole body that is saved
abbrev pub IsOldOrNew : List ℕ → SlotState → List ℕ → Type 0
IsOldOrNew body before image = MayLeave before image ⊎ HasBody body image

-- an image that a crash may leave of the slot after an attempt to save a body, if it is open
abbrev pub MaySave : List ℕ → SlotState → SlotState → Type 0
MaySave body before after = Opens (IsOldOrNew body before) after

-- the slot has the body, and a crash leaves just what it has
abbrev pub HasSaved : List ℕ → SlotState → SlotState → Type 0
HasSaved body before after = IsSynced after × HasBody body after.bytes

-- these two images are such as a crash could leave at this time
abbrev pub CouldLeave : Option History → List ℕ → List ℕ → Type 0
CouldLeave told zero one = IfSome told (λ history. MayLeaveBoth history.now zero one)

-- the two slots have these bytes, and a crash leaves just them
abbrev pub Have : Option History → List ℕ → List ℕ → Type 0
Have told zero one = IfSome told (λ history.
    history.now ≡ record { zero = synced zero; one = synced one })

-- the slots have bytes that a crash could leave before, and now leaves
pub record Settles (old new : Option History) : Type 0 where
  pub zero : List ℕ
  pub one : List ℕ
  pub have : Have new zero one
  pub could : CouldLeave old zero one
