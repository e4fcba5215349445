-- The front of a stream of frames.
use Rattle.std.specs.Prelude.{◌≡◌, ℕ, ◌+◌, ◌<◌, ◌≤◌, List, ◌++◌, length, take, ◌⊎◌}
use Rattle.std.specs.Int.{w32, from_be_bytes}
use Rattle.ug_frames.specs.declared.decoded.Decoded.{Decoded}
use Rattle.ug_frames.specs.declared.decoded.Decoded.TheVariants.{NeedMore, Bad, Whole}
use Rattle.ug_frames.specs.Ranges.{longest}

-- the number that the first four bytes are
abbrev pub length_told : List ℕ → ℕ
length_told bytes = from_be_bytes w32 (take 4 bytes)

-- a length that a frame may have behind it
pub record IsLength (n : ℕ) : Type 0 where
  pub some : 1 ≤ n
  pub few : n ≤ longest

-- the length is one that a frame may have, and not all that it counts is there
pub record LacksBytes (bytes : List ℕ) : Type 0 where
  pub fine : IsLength (length_told bytes)
  pub short : length bytes < 4 + length_told bytes

-- a frame is cut short: its length is not all there, or what it counts is not
abbrev pub IsCutShort : List ℕ → Type 0
IsCutShort bytes = (length bytes < 4) ⊎ LacksBytes bytes

-- a frame is there: its length is one that it may have, and so is all that it counts
pub record IsThere (bytes : List ℕ) : Type 0 where
  pub fine : IsLength (length_told bytes)
  pub whole : 4 + length_told bytes ≤ length bytes

module _ {M : Type 0} (IsCarried : M → Type 0) (spelled : M → List ℕ) where
  -- the bytes begin with the frame of the message
  pub record BeginsWith (bytes : List ℕ) (message : M) : Type 0 where
    pub carried : IsCarried message
    pub rest : List ℕ
    pub parts : bytes ≡ spelled message ++ rest

  -- The result for the front: more is needed if a frame is cut short; it is bad if no frame is cut
  -- short and no message's frame is the front; else it is whole, and has this many bytes.
  abbrev pub IsDecoded : List ℕ → Decoded M → Type 0
  IsDecoded bytes NeedMore = IsCutShort bytes
  IsDecoded bytes Bad = ¬ IsCutShort bytes × ((message : M) → ¬ BeginsWith bytes message)
  IsDecoded bytes (Whole message used) =
      BeginsWith bytes message × (used ≡ length (spelled message))
