-- How much of the bytes is enough to see what they state, and how far they are read.
use Rattle.std.specs.Prelude.{◌≡◌, ℕ, ◌<◌, ◌≤◌, Bool, List, ◌++◌, length, take, Option}
use Rattle.std.specs.Option.{option_map}
use Rattle.ug_io.specs.Outside.{Gives, IsAtEnd, Rose}
use Rattle.ug_mps.specs.declared.ending.Tail.{Tail}
use Rattle.ug_mps.specs.declared.ending.Tail.TheVariants as tails
use Rattle.ug_mps.specs.Ending.{HasNoEnd, HasNoFeed, IsUnended, legible_by}
use Rattle.ug_mps.specs.Laws.{StatesSame}
use Rattle.ug_mps.specs.declared.gathering.GatherError.{GatherError}
use Rattle.ug_mps.specs.declared.gathering.GatherError.TheVariants.{Memory, Fault}

-- what the error of a gathering says of the source's faults: out of memory is not one
abbrev pub gather_cause : GatherError → ℕ → ℕ → Type 0
gather_cause Memory old new = new ≡ old
gather_cause Fault old new = Rose old new

-- `n` bytes were read into the buffer and appended to the bytes; with none the source is at its end
pub record HasCome (buffer bytes more : List ℕ) (old new : Option (List ℕ)) (n : ℕ) : Type 0 where
  pub within : n ≤ length buffer
  pub put : more ≡ bytes ++ take n buffer
  pub taken : Gives old new (take n buffer)
  pub end : n ≡ 0 → IsAtEnd old

-- the bytes that are kept state what all the bytes state
abbrev pub IsEnough : List ℕ → List ℕ → Type 0
IsEnough bytes text = StatesSame text bytes

-- whether the ENDATA line is legible, by what was seen of it and the bytes that are left, if the
-- source shows them
abbrev pub legible_left : Option (List ℕ) → Tail → Option Bool
legible_left left tail = option_map (λ bytes. legible_by tail bytes) left

-- ---- how far is read

-- what a source gave, less the piece of its last call, satisfies the rule
pub record GivesWhile (rule : List ℕ → Type 0) (old new : Option (List ℕ)) : Type 0 where
  pub before : List ℕ
  pub last : List ℕ
  pub taken : Gives old new (before ++ last)
  pub kept : rule before
  pub piece : length last ≤ 65536

-- reading stops with the line ENDATA: what was read, less the piece of the last call, does not yet
-- hold the whole line
abbrev pub StopsAtEnd : Option (List ℕ) → Option (List ℕ) → Type 0
StopsAtEnd old new = GivesWhile HasNoEnd old new

-- the rest of the line is read on over up to its line feed, and not at all where its end was seen
abbrev pub StopsAtFeed : Tail → Option (List ℕ) → Option (List ℕ) → Type 0
StopsAtFeed (tails.Open after) old new = GivesWhile HasNoFeed old new
StopsAtFeed tails.Legible old new = new ≡ old
StopsAtFeed tails.Bad old new = new ≡ old

-- so is what follows these bytes of it
pub record StopsBehind (bytes : List ℕ) (old new : Option (List ℕ)) : Type 0 where
  pub tail : Tail
  pub unended : IsUnended tail bytes
  pub stops : StopsAtFeed tail old new

-- one piece of the line came, after a carriage return or not, and what is then seen of the line is
-- the same; if more are needed the piece has a byte, and no end of the line
pub record PieceCame (after : Bool) (tail : Tail) (old new : Option (List ℕ)) : Type 0 where
  pub piece : List ℕ
  pub taken : Gives old new piece
  pub legible : legible_left old (tails.Open after) ≡ legible_left new tail
  pub unended : IsUnended tail piece
  pub some : (later : Bool) → tail ≡ tails.Open later → 0 < length piece
  pub few : length piece ≤ 65536
