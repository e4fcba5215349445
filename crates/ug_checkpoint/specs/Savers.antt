-- What a saver knows of the slots, and what a crash leaves during a save.
use Rattle.std.specs.Prelude.{◌≡◌, ◌⊎◌, ℕ, List, Option, None, Some, IfSome}
use Rattle.ug_disk.specs.declared.slot.Slot.{Slot}
use Rattle.ug_disk.specs.Slots.{SlotState}
use Rattle.ug_disk.specs.Histories.{History, slot_of}
use Rattle.ug_disk.specs.Crashes.{MayLeaveBoth}
use Rattle.ug_checkpoint.specs.Gates.{IsSynced, Opens}
use Rattle.ug_checkpoint.specs.SlotPairs.{Knows, last_of, target_of}
use Rattle.ug_checkpoint.specs.Runs.{Becomes, Stands, CouldLeave, other}
use Rattle.ug_image.specs.declared.image.Image.{Image}
use Rattle.ug_checkpoint.specs.declared.found.Found.{Found}
use Rattle.ug_checkpoint.specs.declared.saver.Saver.{Saver}
use Rattle.ug_checkpoint.specs.Bodies.{Has}
use Rattle.ug_checkpoint.specs.Recovery.{Recovered}

-- the slot of the last acknowledged image, if there is one
abbrev pub last_slot : Saver → Option Slot
last_slot saver = last_of saver.slot_pair

-- the slot that the next save writes
abbrev pub next_slot : Saver → Slot
next_slot saver = target_of saver.slot_pair

-- the sequence of the last acknowledged image, 0 before any
abbrev pub sequence_of : Saver → ℕ
sequence_of saver = saver.sequence

-- the slot has some image
abbrev pub HasImage : List ℕ → Type 0
HasImage slot = (image : Image) × Has slot image

-- the slot has an image of this sequence, and a crash leaves just what it has
pub record IsAcknowledged (sequence : ℕ) (state : SlotState) : Type 0 where
  pub synced : IsSynced state
  pub image : Image
  pub has : Has state.bytes image
  pub is : image.sequence ≡ sequence

-- the state of the slot that a save leaves alone: it has the last acknowledged image, or it is shut
-- if there is not one
abbrev pub Rests : Option Slot → ℕ → SlotState → Type 0
Rests None sequence state = Opens (λ image. ⊥) state
Rests (Some slot) sequence state = IsAcknowledged sequence state

-- The slots stand as a load left them, or the saver's last save.
pub record IsKept (saver : Saver) (told : Option History) : Type 0 where
  pub knows : Knows saver.slot_pair told
  pub rests : Stands told (other (next_slot saver)) (Rests (last_slot saver) (sequence_of saver))
  pub images : Stands told (next_slot saver) (Opens HasImage)

-- recovery could find this at that time, if there was a crash
pub record CouldFind (told : Option History) (found : Option Found) : Type 0 where
  pub zero : List ℕ
  pub one : List ℕ
  pub could : CouldLeave told zero one
  pub recovered : Recovered zero one found

-- this is the last acknowledged image, or none where there is none
abbrev pub IsLast : Option Slot → Option History → Option Found → Type 0
IsLast None told found = found ≡ None
IsLast (Some slot) told found = IfSome told (λ history. (image : Image)
    × Has (slot_of slot history.now).bytes image
    × (found ≡ Some (record { slot = slot; image = image })))

-- What a save of a new image may leave: recovery finds what it could find before, the last
-- acknowledged image, or the new one.
pub record IsSafe (last : Option Slot) (told : Option History) (new : Found) (zero one : List ℕ)
    : Type 0 where
  pub found : Option Found
  pub recovered : Recovered zero one found
  pub is : (CouldFind told found ⊎ IsLast last told found) ⊎ (found ≡ Some new)

-- whatever a crash leaves, recovery finds this
abbrev pub Finds : Option History → Found → Type 0
Finds told found = IfSome told (λ history. (zero one : List ℕ)
    → MayLeaveBoth history.now zero one → Recovered zero one (Some found))

-- a read of the slot gives the image, where it is known
abbrev pub IsWritten : Slot → Image → Option History → Type 0
IsWritten slot image told = Stands told slot (λ state. Has state.bytes image)

-- whatever became of the slot, the other stands as it did
abbrev pub IsLeftAlone : Slot → Option History → Option History → Type 0
IsLeftAlone slot old new = Becomes old new slot (λ before after. Unit {0})

-- each image that recovery could find at this moment has P, and so has the last acknowledged one
pub record AllHave (P : Image → Type 0) (slot : Option Slot) (now : History) : Type 0 where
  pub could : (found : Found) → CouldFind (Some now) (Some found) → P found.image
  pub last : (found : Found) → IsLast slot (Some now) (Some found) → P found.image

-- each image that recovery finds in slots of these bytes has P
abbrev pub FindsOnly : (Image → Type 0) → List ℕ → List ℕ → Type 0
FindsOnly P zero one = (found : Found) → Recovered zero one (Some found) → P found.image
