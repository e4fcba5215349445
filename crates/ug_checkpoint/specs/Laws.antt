-- The result of recovery.
use Rattle.std.specs.Prelude.{◌≡◌, ℕ, List, Option}
use Rattle.ug_disk.specs.declared.slot.Slot.{Slot}
use Rattle.ug_checkpoint.specs.declared.found.Found.{Found}
use Rattle.ug_checkpoint.specs.Recovery.{Recovered, IsFirstBadSlot}

-- two slots have one recovery at most
abbrev pub RecoveryIsOne : Type 0
RecoveryIsOne = (zero one : List ℕ) (found other : Option Found)
    → Recovered zero one found → Recovered zero one other → found ≡ other

-- and where they have one, no slot is bad
abbrev pub NoneIsBad : Type 0
NoneIsBad = (zero one : List ℕ) (found : Option Found) (slot : Slot) (at : ℕ)
    → Recovered zero one found → ¬ IsFirstBadSlot zero one slot at
