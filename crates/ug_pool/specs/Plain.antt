-- An unsorted list of entries, the latest first, and its order.
use Rattle.std.specs.Prelude.{◌≡◌, ℕ, ◌<◌, true, false, List, [], ◌∷◌}
use Rattle.ug_pool.specs.declared.entry.Entry.{Entry}
use Rattle.ug_pool.specs.Pools.{is_before, entry_at, with_entry}

-- the entries in order
abbrev pub in_order : List Entry → List Entry
in_order [] = []
in_order (entry ∷ entries) = with_entry entry (in_order entries)

-- of the first n entries the one at this place is the least, and before each that follows it
pub record IsLeast (n : ℕ) (entries : List Entry) (at : ℕ) : Type 0 where
  pub there : at < n
  pub ahead : (k : ℕ) → k < at → is_before (entry_at entries k) (entry_at entries at) ≡ false
  pub behind : (k : ℕ) → at < k → k < n
      → is_before (entry_at entries at) (entry_at entries k) ≡ true
