-- The observation of a folder that has the files of two slots.
use Rattle.std.specs.Prelude.{◌≡◌, Option, Some, IfSome}
use Rattle.ug_disk.specs.declared.slot.Slot.{Slot}
use Rattle.ug_disk.specs.Histories.{History}

-- the history of the slots so far, if it is shown, and the slot whose file was synced and not
-- written since
pub record FolderSeen : Type 0 where
  pub told : Option History
  pub settled : Option Slot

-- if the history is shown, the slot's file is on the disk with all its bytes, provided that its
-- name in the folder is
abbrev pub IsSettled : FolderSeen → Slot → Type 0
IsSettled seen slot = IfSome seen.told (λ history. seen.settled ≡ Some slot)
