-- What the parts of a frame can carry.
use Rattle.std.specs.Prelude.{ℕ, ℤ, ◌+◌, ◌*◌, ◌^◌, ◌<◌, ◌≤◌, ◌≤ℤ◌, List, length, All, unsigned_abs}
use Rattle.ug_nodes.specs.declared.name.Ticket.{Ticket}
use Rattle.ug_nodes.specs.declared.change.Change.{Change}
use Rattle.ug_nodes.specs.Changes.{IsRising}

-- the greatest length that a frame can carry, which is counted in bytes after the length itself
abbrev pub longest : ℕ
longest = 67108860

-- a ticket that was given: its run and its number count from 1
pub record IsGiven (ticket : Ticket) : Type 0 where
  pub run : 1 ≤ ticket.run
  pub number : 1 ≤ ticket.number

-- a value is at most 2*10^37 in absolute value
abbrev pub IsValue : ℤ → Type 0
IsValue value = unsigned_abs value ≤ 2 * 10 ^ 37

-- the bytes of a record leave room in the frame for the tag and the gap
abbrev pub HasRoom : List ℕ → Type 0
HasRoom record_bytes = 1 + 16 + length record_bytes ≤ longest

-- a bound of a column, or a point's value in it, is at most 10^9 in absolute value
abbrev pub IsColumnValue : ℤ → Type 0
IsColumnValue bound = unsigned_abs bound ≤ 10 ^ 9

-- a point has at most 10,000 values, each within its range
pub record IsPoint (x : List ℤ) : Type 0 where
  pub few : length x ≤ 10 ^ 4
  pub small : All IsColumnValue x

-- a change is of one of the first 10,000 columns, and its bounds are closed and within their range
pub record IsSmallChange (change : Change) : Type 0 where
  pub column : change.column < 10 ^ 4
  pub closed : change.low ≤ℤ change.high
  pub low : IsColumnValue change.low
  pub high : IsColumnValue change.high

-- the changes are within their ranges, and their columns rise strictly, so they are 10,000 at most
pub record AreChanges (changes : List Change) : Type 0 where
  pub rising : IsRising changes
  pub each : All IsSmallChange changes
