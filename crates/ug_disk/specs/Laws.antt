-- Consequences of the model of a disk.
use Rattle.std.specs.Prelude.{◌≡◌, ◌⊎◌, ◌↔◌, ℕ, ◌+◌, ◌<◌, ◌≤◌, max, List, length, take, drop}
use Rattle.ug_disk.specs.Slots.{SlotState, IsLoose, MayLeave, IsReal, synced, loosened, written}

-- Of bytes over which n others were being written at a place a crash left this image: all before
-- the place and all behind it is there, and nothing beyond.
pub record IsTorn (at n : ℕ) (bytes image : List ℕ) : Type 0 where
  pub before : take at image ≡ take at bytes
  pub after : drop (at + n) image ≡ drop (at + n) bytes
  pub no_shorter : length bytes ≤ length image
  pub no_longer : length image ≤ max (length bytes) (at + n)

-- while n bytes are being written to a synced slot a crash may leave just what is torn there
abbrev pub WriteIsTorn : Type 0
WriteIsTorn = (at n : ℕ) (bytes image : List ℕ) → at ≤ length bytes
    → MayLeave (loosened at n (synced bytes)) image ↔ IsTorn at n bytes image

-- after a sync a crash leaves what a read gives, and nothing else
abbrev pub SyncLeavesOne : Type 0
SyncLeavesOne = (bytes image : List ℕ) → MayLeave (synced bytes) image ↔ (image ≡ bytes)

-- a write takes no image away
abbrev pub WriteAddsImages : Type 0
WriteAddsImages = (at n : ℕ) (slot : SlotState) (image : List ℕ)
    → MayLeave slot image → MayLeave (loosened at n slot) image

-- what a crash may leave is the same while bytes are being written and when they are
abbrev pub WriteEndsAsItGoes : Type 0
WriteEndsAsItGoes = (at : ℕ) (piece : List ℕ) (slot : SlotState) (image : List ℕ)
    → IsReal slot → at ≤ length slot.bytes
    → MayLeave (written at piece slot) image ↔ MayLeave (loosened at (length piece) slot) image

-- after a write what a read gives is one of the images that a crash may leave
abbrev pub WriteStaysReal : Type 0
WriteStaysReal = (at : ℕ) (piece : List ℕ) (slot : SlotState)
    → IsReal slot → at ≤ length slot.bytes → IsReal (written at piece slot)

-- while bytes are being written, what was loose is, and the places over which they are
abbrev pub WriteLoosens : Type 0
WriteLoosens = (at n : ℕ) (slot : SlotState) (place : ℕ)
    → IsLoose (loosened at n slot).loose place
    ↔ (IsLoose slot.loose place ⊎ ((at ≤ place) × (place < at + n)))
