-- What recovery finds in two slots.
use Rattle.std.specs.Prelude.{◌≡◌, ℕ, List, Option, None, Some, nat_lt, if◌then◌else◌}
use Rattle.ug_disk.specs.declared.slot.Slot.{Slot}
use Rattle.ug_disk.specs.declared.slot.Slot.TheVariants.{Zero, One}
use Rattle.ug_disk.specs.Histories.{History}
use Rattle.ug_checkpoint.specs.Runs.{Have, CouldLeave}
use Rattle.ug_image.specs.declared.image.Image.{Image}
use Rattle.ug_checkpoint.specs.declared.error.LoadError.{LoadError}
use Rattle.ug_checkpoint.specs.declared.error.LoadError.TheVariants.{Memory, Fault, BadImage}
use Rattle.ug_checkpoint.specs.declared.found.Found.{Found}
use Rattle.ug_checkpoint.specs.Bodies.{Stores, IsBad}

-- of the images of two slots the one with the larger sequence, on a tie that of slot 0
abbrev pub chosen : Option Image → Option Image → Option Found
chosen None None = None
chosen (Some zero) None = Some (record { slot = Zero; image = zero })
chosen None (Some one) = Some (record { slot = One; image = one })
chosen (Some zero) (Some one) =
    if nat_lt zero.sequence one.sequence then Some (record { slot = One; image = one })
    else Some (record { slot = Zero; image = zero })

-- Recovery finds this in two slots of these bytes: of those that are open the image with the
-- greater sequence, and none where both are shut.
pub record Recovered (zero one : List ℕ) (found : Option Found) : Type 0 where
  pub in_zero : Option Image
  pub in_one : Option Image
  pub has_zero : Stores zero in_zero
  pub has_one : Stores one in_one
  pub greater : found ≡ chosen in_zero in_one

-- the first slot that is open and spells no image is this one, and there its first bad field begins
abbrev pub IsFirstBadSlot : List ℕ → List ℕ → Slot → ℕ → Type 0
IsFirstBadSlot zero one Zero at = IsBad zero at
IsFirstBadSlot zero one One at = ((image : Option Image) × Stores zero image) × IsBad one at

-- why nothing is found in the slots
abbrev pub IsCause : List ℕ → List ℕ → LoadError → Type 0
IsCause zero one Memory = Unit {0}
IsCause zero one Fault = ⊥
IsCause zero one (BadImage slot at) = IsFirstBadSlot zero one slot at

-- why no image is found in a slot of these bytes
abbrev pub IsCauseIn : Slot → List ℕ → LoadError → Type 0
IsCauseIn slot bytes Memory = Unit {0}
IsCauseIn slot bytes Fault = ⊥
IsCauseIn slot bytes (BadImage bad at) = (bad ≡ slot) × IsBad bytes at

-- A load read the slots: a crash could leave these bytes before, leaves just them now, and they
-- have P.
pub record Loaded (P : List ℕ → List ℕ → Type 0) (old new : Option History) : Type 0 where
  pub zero : List ℕ
  pub one : List ℕ
  pub could : CouldLeave old zero one
  pub have : Have new zero one
  pub is : P zero one

-- this was found
abbrev pub HasFound : Option History → Option History → Option Found → Type 0
HasFound old new found = Loaded (λ zero one. Recovered zero one found) old new

-- why nothing is found, where the slots were read
abbrev pub IsRefused : Option History → Option History → LoadError → Type 0
IsRefused old new Memory = Unit {0}
IsRefused old new Fault = Unit {0}
IsRefused old new (BadImage slot at) =
    Loaded (λ zero one. IsFirstBadSlot zero one slot at) old new
