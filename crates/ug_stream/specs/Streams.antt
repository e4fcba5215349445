-- The bytes of a stream that wait, and what comes next of them.
use Rattle.std.specs.Prelude.{◌≡◌, ◌⊎◌, ℕ, ◌+◌, ◌-◌, ◌^◌, min, Bool, true, false, List, [], ◌++◌, length}
use Rattle.std.specs.Prelude.{drop, if◌then◌else◌}
use Rattle.ug_frames.specs.declared.decoded.Decoded.TheVariants.{Bad}
use Rattle.ug_frames.specs.Fronts.{IsCutShort, IsDecoded}
use Rattle.ug_stream.specs.declared.next.Next.{Next}
use Rattle.ug_stream.specs.declared.next.Next.TheVariants.{Message, NeedMore, BadFrame}

-- the place in the stream of the first byte that waits; the bytes that wait; and whether bad ones
-- came
pub record Waiting : Type 0 where
  pub at : ℕ
  pub bytes : List ℕ
  pub bad : Bool

-- at the begin of a stream
abbrev pub first : Waiting
first = record { at = 0; bytes = []; bad = false }

-- more bytes wait; behind bad ones none does
abbrev pub fed : Waiting → List ℕ → Waiting
fed w piece = if w.bad then w else (record w { bytes = w.bytes ++ piece })

-- this many bytes further on, up to the end of the count
abbrev pub further : ℕ → ℕ → ℕ
further at used = min (at + used) (2 ^ 64 - 1)

-- without this many of the bytes
abbrev pub passed : ℕ → Waiting → Waiting
passed used w = record w { at = further w.at used; bytes = drop used w.bytes }

-- no byte waits, nor will one
abbrev pub shut : Waiting → Waiting
shut w = record w { bytes = []; bad = true }

module _ {M : Type 0} (IsCarried : M → Type 0) (spelled : M → List ℕ) where
  -- a message was given, whose frame was the front of what waited
  pub record IsGiven (old new : Waiting) (message : M) : Type 0 where
    pub fine : old.bad ≡ false
    pub carried : IsCarried message
    pub parts : old.bytes ≡ spelled message ++ new.bytes
    pub at : new.at ≡ further old.at (length (spelled message))
    pub still : new.bad ≡ false

  -- a frame is cut short, and nothing changed
  pub record IsShort (old new : Waiting) : Type 0 where
    pub fine : old.bad ≡ false
    pub short : IsCutShort old.bytes
    pub same : new ≡ old

  -- bad bytes came before, or are at the front of what waited: from this place on
  pub record IsBadAt (old new : Waiting) (at : ℕ) : Type 0 where
    pub place : at ≡ old.at
    pub bad : (old.bad ≡ true) ⊎ IsDecoded IsCarried spelled old.bytes Bad
    pub final : new.bad ≡ true
    pub still : new.at ≡ old.at

  -- what came next
  abbrev pub IsNext : Waiting → Waiting → Next M → Type 0
  IsNext old new (Message message) = IsGiven old new message
  IsNext old new NeedMore = IsShort old new
  IsNext old new (BadFrame at) = IsBadAt old new at
