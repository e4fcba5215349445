-- Rows that are queued: one bit a row, 64 to a word.
use Rattle.std.specs.Prelude.{◌≡◌, ◌≢◌, ℕ, ◌*◌, ◌/◌, ◌%◌, ◌<◌, ◌≤◌, List, length, slice_index}
use Rattle.std.specs.Prelude.{Option, Some, None}
use Rattle.std.specs.Int.{bit_at}

-- the bit of row r: 1 where it is queued, and 0 where it is not, or not there
abbrev pub bit_of : List ℕ → ℕ → ℕ
bit_of words r = bit_at (slice_index words (r / 64)) (r % 64)

-- the bit of row r is this now, and each other as it was
pub record HasBit (r bit : ℕ) (old new : List ℕ) : Type 0 where
  pub here : bit_of new r ≡ bit
  pub others : (k : ℕ) → k ≢ r → bit_of new k ≡ bit_of old k

-- no row from this one on, and below another, is queued
abbrev pub AreUnqueued : List ℕ → ℕ → ℕ → Type 0
AreUnqueued words from to = (k : ℕ) → from ≤ k → k < to → bit_of words k ≡ 0

-- no row from this one on is queued
abbrev pub NoneFrom : List ℕ → ℕ → Type 0
NoneFrom words from = (k : ℕ) → from ≤ k → bit_of words k ≡ 0

-- r is the first row from this one on that is queued
pub record IsNext (words : List ℕ) (from r : ℕ) : Type 0 where
  pub least : from ≤ r
  pub there : r < 64 * length words
  pub queued : bit_of words r ≡ 1
  pub between : (k : ℕ) → from ≤ k → k < r → bit_of words k ≡ 0

-- the first row from this one on that is queued, if there is one
abbrev pub IsFound : List ℕ → ℕ → Option ℕ → Type 0
IsFound words from None = NoneFrom words from
IsFound words from (Some r) = IsNext words from r

-- i is the first place of a 1 in the word from this one on
pub record IsFirstBit (word low i : ℕ) : Type 0 where
  pub least : low ≤ i
  pub short : i < 64
  pub one : bit_at word i ≡ 1
  pub between : (k : ℕ) → low ≤ k → k < i → bit_at word k ≡ 0

-- the first place of a 1 in the word from this one on, if there is one
abbrev pub IsFoundIn : ℕ → ℕ → Option ℕ → Type 0
IsFoundIn word low None = (k : ℕ) → low ≤ k → bit_at word k ≡ 0
IsFoundIn word low (Some i) = IsFirstBit word low i
