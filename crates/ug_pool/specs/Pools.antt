-- Open nodes in order of their floors, and of their names where the floors are the same.
use Rattle.std.specs.Prelude.{◌≡◌, ℕ, ℤ, pos, ◌+◌, ◌<◌, Bool, false, not, int_lt, List, [], ◌∷◌}
use Rattle.std.specs.Prelude.{◌++◌, length, filter, slice_index_or}
use Rattle.std.specs.declared.cmp.Ordering.{Ordering}
use Rattle.std.specs.Ordering.{int_cmp, ordering_then, is_lt}
use Rattle.ug_nodes.specs.declared.name.Name.{Name}
use Rattle.ug_nodes.specs.declared.node.Node.{Node}
use Rattle.ug_nodes.specs.Names.{name_cmp, own_name}
use Rattle.ug_nodes.specs.Lines.{is_ancestor}
use Rattle.ug_pool.specs.declared.entry.Entry.{Entry}

-- the name of the entry's node
abbrev pub name_of : Entry → Name
name_of entry = own_name entry.node.line

-- how an entry stands to another: by the floors, then by the names
abbrev pub entry_cmp : Entry → Entry → Ordering
entry_cmp a b = ordering_then (int_cmp a.floor b.floor) (name_cmp (name_of a) (name_of b))

-- whether an entry is before another
abbrev pub is_before : Entry → Entry → Bool
is_before a b = is_lt (entry_cmp a b)

-- an entry that stands for one that is not there
abbrev pub no_entry : Entry
no_entry = record { floor = pos 0; node = record { line = []; changes = [] } }

-- entry k
abbrev pub entry_at : List Entry → ℕ → Entry
entry_at entries k = slice_index_or entries k no_entry

-- no entry is before one that precedes it in the list
abbrev pub IsInOrder : List Entry → Type 0
IsInOrder entries =
    (i k : ℕ) → i < k → k < length entries
    → is_before (entry_at entries k) (entry_at entries i) ≡ false

-- the list with an entry more, behind those that it is not before
abbrev pub with_entry : Entry → List Entry → List Entry
with_entry entry entries =
    filter (λ other. not (is_before entry other)) entries
    ++ entry ∷ filter (λ other. is_before entry other) entries

-- the entries with a floor below the value
abbrev pub with_floor_below : ℤ → List Entry → List Entry
with_floor_below value entries = filter (λ entry. int_lt entry.floor value) entries

-- the entries that do not have the line's node as a proper ancestor
abbrev pub without_below : List Name → List Entry → List Entry
without_below line entries = filter (λ entry. not (is_ancestor line entry.node.line)) entries

-- a pool: its entries in order, and how many more may be put into it
pub record Pooled : Type 0 where
  pub entries : List Entry
  pub spare : ℕ

-- the node was put in, in a spare place
pub record IsPut (floor : ℤ) (node : Node) (old new : Pooled) : Type 0 where
  pub entries : new.entries ≡ with_entry (record { floor = floor; node = node }) old.entries
  pub spare : new.spare + 1 ≡ old.spare

-- the first node was taken out, and its place is spare
pub record IsTaken (old new : Pooled) (node : Node) : Type 0 where
  pub floor : ℤ
  pub first : old.entries ≡ record { floor = floor; node = node } ∷ new.entries
  pub spare : new.spare ≡ old.spare + 1

-- of the entries these are kept, and the places of the others are spare
pub record IsDroppedTo (kept : List Entry) (old new : Pooled) : Type 0 where
  pub entries : new.entries ≡ kept
  pub spare : new.spare + length new.entries ≡ old.spare + length old.entries
