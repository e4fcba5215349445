-- What a crash leaves at whatever moment of a run of calls.
use Rattle.std.specs.Prelude.{◌≡◌, ◌⊎◌, ℕ, List, [], ◌∷◌, ◌++◌, Option, None, Some, IfSome}
use Rattle.std.specs.Option.{option_map}
use Rattle.ug_disk.specs.declared.slot.Slot.{Slot}
use Rattle.ug_disk.specs.Slots.{SlotState, MayLeave, loosened}
use Rattle.ug_disk.specs.Histories.{Slots, History, moments, slot_of, with_slot}

-- a crash at this moment may leave these images of the two slots
abbrev pub MayLeaveBoth : Slots → List ℕ → List ℕ → Type 0
MayLeaveBoth slots zero one = MayLeave slots.zero zero × MayLeave slots.one one

-- a crash at one of these moments might have left these images
abbrev pub MightHaveLeft : List Slots → List ℕ → List ℕ → Type 0
MightHaveLeft [] zero one = ⊥
MightHaveLeft (slots ∷ those) zero one = MayLeaveBoth slots zero one ⊎ MightHaveLeft those zero one

-- From one history to a later one: whatever images a crash might have left, at the first moment, at
-- the last or at one between, have P.
pub record LeavesOnly (P : List ℕ → List ℕ → Type 0) (old new : History) : Type 0 where
  pub since : List Slots
  pub later : moments new ≡ since ++ moments old
  pub each : (zero one : List ℕ) → MightHaveLeft (since ++ old.now ∷ []) zero one → P zero one

-- the same, if the disk shows it
abbrev pub Leaves : (List ℕ → List ℕ → Type 0) → Option History → Option History → Type 0
Leaves P None new = Unit {0}
Leaves P (Some old) None = ⊥
Leaves P (Some old) (Some new) = LeavesOnly P old new

-- the slots while n bytes are being written at a place of one of them
abbrev pub writing : Slot → ℕ → ℕ → Slots → Slots
writing slot at n slots = with_slot slot (loosened at n (slot_of slot slots)) slots

-- a crash may leave these images while n bytes are being written at a place of a slot
abbrev pub MayLeaveWriting : Option History → Slot → ℕ → ℕ → List ℕ → List ℕ → Type 0
MayLeaveWriting told slot at n zero one =
    IfSome told (λ history. MayLeaveBoth (writing slot at n history.now) zero one)

-- the slots are now as they were, but for this that became of one of them
abbrev pub IsNow : Option History → Option History → Slot → (SlotState → SlotState) → Type 0
IsNow old new slot change = option_map (λ history. history.now) new
    ≡ option_map (λ history. with_slot slot (change (slot_of slot history.now)) history.now) old
