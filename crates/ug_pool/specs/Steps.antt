-- The place of an entry.
use Rattle.std.specs.Prelude.{◌≡◌, ℕ, ◌<◌, ◌≤◌, true, false, List, length}
use Rattle.ug_pool.specs.declared.entry.Entry.{Entry}
use Rattle.ug_pool.specs.Pools.{is_before, entry_at}

-- the entry is before those from this place on, and before no other
pub record IsPlace (entry : Entry) (entries : List Entry) (at : ℕ) : Type 0 where
  pub there : at ≤ length entries
  pub ahead : (k : ℕ) → k < at → is_before entry (entry_at entries k) ≡ false
  pub behind : (k : ℕ) → at ≤ k → k < length entries → is_before entry (entry_at entries k) ≡ true
