-- Faults, and the first of them.
use Rattle.std.specs.Prelude.{◌≡◌, ℕ, List, [], ◌∷◌, Option, Some, None}
use Rattle.ug_drafts.specs.declared.fault.Kind.{Kind}
use Rattle.ug_drafts.specs.declared.fault.MpsError.{MpsError}
use Rattle.ug_drafts.specs.declared.fault.MpsError.TheVariants.{Memory, Fault}
use Rattle.ug_drafts.specs.declared.fault.MpsFault.{MpsFault}

-- a fault of this kind, at this line and with this word
abbrev pub fault_at : ℕ → Kind → Option (List ℕ) → MpsFault
fault_at line kind word = record { line = line; kind = kind; word = word }

-- the first fault, or else the second
abbrev pub or_else : Option MpsFault → Option MpsFault → Option MpsFault
or_else (Some f) other = Some f
or_else None other = other

-- the first fault that one of them has
abbrev pub first_fault : {X : Type 0} → (X → Option MpsFault) → List X → Option MpsFault
first_fault fault [] = None
first_fault fault (x ∷ xs) = or_else (fault x) (first_fault fault xs)

-- the error is this fault, if it is not for memory
abbrev pub IsOf : Option MpsFault → MpsError → Type 0
IsOf fault Memory = Unit {0}
IsOf fault (Fault f) = fault ≡ Some f
