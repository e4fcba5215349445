-- The line of a run that does not begin.
use Rattle.std.specs.Prelude.{ℕ, List, ◌++◌, Option, Some, None, codes}
use Rattle.std.specs.Fmt.{decimal, signed_decimal}
use Rattle.ug_disk.specs.declared.slot.Slot.{Slot}
use Rattle.ug_disk.specs.declared.slot.Slot.TheVariants.{Zero, One}
use Rattle.ug_restart.specs.declared.fault.StartFault.{StartFault}
use Rattle.ug_restart.specs.declared.fault.StartFault.TheVariants.{Memory, DiskFault, BadImage}
use Rattle.ug_restart.specs.declared.fault.StartFault.TheVariants.{NoCheckpoint, OtherProblem}
use Rattle.ug_restart.specs.declared.fault.StartFault.TheVariants.{SmallerGap, Spent}
use Rattle.ug_print.specs.Lines.{line, further}

-- the number of a slot
abbrev pub slot_name : Slot → List ℕ
slot_name Zero = codes "0"
slot_name One = codes "1"

-- a byte in decimal, and `none` past the end
abbrev pub byte_name : Option ℕ → List ℕ
byte_name None = codes "none"
byte_name (Some byte) = decimal byte

-- why no run begins: the place of the first bad field in its slot; the first byte in which the
-- records differ, with the byte that is kept and the one that was read; the gaps, as scaled numbers
abbrev pub fault_words : StartFault → List ℕ
fault_words Memory = codes "memory"
fault_words DiskFault = codes "disk fault"
fault_words (BadImage slot at) =
    codes "bad image" ++ further (slot_name slot) ++ further (decimal at)
fault_words NoCheckpoint = codes "no checkpoint"
fault_words (OtherProblem at kept read) = codes "other problem" ++ further (decimal at)
    ++ further (byte_name kept) ++ further (byte_name read)
fault_words (SmallerGap kept asked) =
    codes "smaller gap" ++ further (signed_decimal kept) ++ further (signed_decimal asked)
fault_words Spent = codes "spent"

-- the line of it
abbrev pub fault_line : StartFault → List ℕ
fault_line fault = line (fault_words fault)
