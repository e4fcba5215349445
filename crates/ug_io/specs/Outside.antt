-- The contracts of sources and sinks: bytes that come and go, if they are shown, and a count of
-- faults.
use Rattle.std.specs.Prelude.{◌≡◌, ℕ, ◌-◌, ◌<◌, ◌≤◌, ◌^◌, ◌⊎◌, List, [], ◌++◌, Option, IfSome}
use Rattle.std.specs.Prelude.{Result, Ok, Err}
use Rattle.std.specs.Option.{option_map}

-- a source as it is seen: the bytes left, if it shows them, and the number of failed calls
pub record SourceSeen : Type 0 where
  pub left : Option (List ℕ)
  pub faults : ℕ

-- a sink as it is seen: the bytes written, if it shows them, and the number of failed calls
pub record SinkSeen : Type 0 where
  pub written : Option (List ℕ)
  pub faults : ℕ

-- the count of faults rose; one at its largest value stays, and counts as risen
abbrev pub Rose : ℕ → ℕ → Type 0
Rose old new = (old < new) ⊎ ((2 ^ 64 - 1 ≤ old) × (new ≡ old))

-- no fault rose: the count stayed, below its greatest value
pub record IsCalm (old new : ℕ) : Type 0 where
  pub same : new ≡ old
  pub small : old < 2 ^ 64 - 1

-- The count of faults stayed if a call succeeded; otherwise its error says what happened to the
-- count.
abbrev pub IsCountedBy : {T E : Type 0} → (E → ℕ → ℕ → Type 0) → Result T E → ℕ → ℕ → Type 0
IsCountedBy Cause (Ok x) old new = new ≡ old
IsCountedBy Cause (Err e) old new = Cause e old new

-- it rose exactly where the call failed
abbrev pub IsCounted : {T E : Type 0} → Result T E → ℕ → ℕ → Type 0
IsCounted result old new = IsCountedBy (λ e. Rose) result old new

-- these bytes came from the front of what was left
abbrev pub Gives : Option (List ℕ) → Option (List ℕ) → List ℕ → Type 0
Gives old new bytes = old ≡ option_map (λ rest. bytes ++ rest) new

-- nothing is left
abbrev pub IsAtEnd : Option (List ℕ) → Type 0
IsAtEnd left = IfSome left (λ rest. rest ≡ [])

-- these bytes went to the end of what was written
abbrev pub Takes : Option (List ℕ) → Option (List ℕ) → List ℕ → Type 0
Takes old new bytes = new ≡ option_map (λ written. written ++ bytes) old

-- a prefix of the bytes was written
pub record TakesFront (old new : Option (List ℕ)) (bytes : List ℕ) : Type 0 where
  pub front : List ℕ
  pub rest : List ℕ
  pub parts : bytes ≡ front ++ rest
  pub taken : Takes old new front
