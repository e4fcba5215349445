-- A gate stands before the body that a slot holds, and what is known of it.
use Rattle.std.specs.Prelude.{◌≡◌, ◌≢◌, ◌⊎◌, ℕ, ◌<◌, ◌≤◌, Bool, true, false, List, length, take, drop}
use Rattle.std.specs.Prelude.{slice_index}
use Rattle.ug_disk.specs.Slots.{SlotState, IsLoose, MayLeave, synced, loosened}
use Rattle.ug_checkpoint.specs.declared.slots.gate.Gate.{Gate}
use Rattle.ug_checkpoint.specs.declared.slots.gate.Gate.TheVariants.{Unread, Shut, Open, Torn}

-- the byte that opens a gate, and the one that shuts it; when it is read any other shuts it too
abbrev pub gate_byte : Bool → ℕ
gate_byte true = 1
gate_byte false = 0

-- the gate of the image is open: it is 1, and something follows it
abbrev pub IsOpen : List ℕ → Type 0
IsOpen image = (2 ≤ length image) × (slice_index image 0 ≡ 1)

-- these bytes follow the gate; what follows them is not examined
abbrev pub HasBehind : List ℕ → List ℕ → Type 0
HasBehind bytes image = take (length bytes) (drop 1 image) ≡ bytes

-- the image begins with 1 and this body
abbrev pub HasBody : List ℕ → List ℕ → Type 0
HasBody body image = (slice_index image 0 ≡ 1) × HasBehind body image

-- nothing is pending in the slot
abbrev pub IsSynced : SlotState → Type 0
IsSynced state = state ≡ synced state.bytes

-- each image that a crash may leave of the slot has P, where its gate is open
abbrev pub Opens : (List ℕ → Type 0) → SlotState → Type 0
Opens P state = (image : List ℕ) → MayLeave state image → IsOpen image → P image

-- Every image of the slot has a gate, which is one and the same byte and not 1. So whatever is
-- written behind it, the slot is not open.
pub record IsShut (state : SlotState) : Type 0 where
  pub read : 0 < length state.bytes
  pub there : 0 < state.shortest
  pub settled : IsLoose state.loose 0 → ⊥
  pub shut : slice_index state.bytes 0 ≢ 1

-- While the gate is being written no image is open that a crash could not leave before. So what
-- follows it may be examined.
abbrev pub MayBeShut : SlotState → Type 0
MayBeShut state = Opens (MayLeave state) (loosened 0 1 state)

-- the known state of a slot by its keeper's knowledge of the gate
abbrev pub IsGate : Gate → SlotState → Type 0
IsGate Unread state = IsSynced state
IsGate Shut state = IsShut state
IsGate Open state = MayBeShut state
IsGate Torn state = Unit {0}

-- a write of the gate failed on its way: a crash may leave any byte there, and a read gives one
-- such image
pub record GateIsLoose (before after : SlotState) : Type 0 where
  pub bytes : List ℕ
  pub real : MayLeave (loosened 0 1 before) bytes
  pub is : after ≡ record (loosened 0 1 before) { bytes = bytes }

-- what a write of the gate may do that failed: nothing, or it ended on its way
abbrev pub MayBeLoose : SlotState → SlotState → Type 0
MayBeLoose before after = (after ≡ before) ⊎ GateIsLoose before after
