-- Sorted lines, and what is found in them.
use Rattle.std.specs.Prelude.{ℕ, ◌<◌, Bool, List, length, map, take, Contains}
use Rattle.std.specs.Borrow.{Bor}
use Rattle.std.specs.List.{list_any}
use Rattle.std.specs.List.Sorted.{IsSorted}
use Rattle.std.specs.Cmp.Lexicographic.{slice_cmp}
use Rattle.ug_nodes.specs.declared.name.Name.{Name}
use Rattle.ug_nodes.specs.declared.node.Node.{Node}
use Rattle.ug_nodes.specs.Names.{name_cmp, own_name}
use Rattle.ug_nodes.specs.Lines.{is_ancestor}

-- the lines that are lent
abbrev pub fronts : List (Bor (List Name)) → List (List Name)
fronts lines = map (λ (line : Bor (List Name)). line.now) lines

-- the line of a node that is lent
abbrev pub line_of : Bor Node → List Name
line_of node = node.now.line

-- the name by which nodes are sorted
abbrev pub key_of : Bor Node → Name
key_of node = own_name node.now.line

-- the lines are in order: by their first names, then by the next, and a front first
abbrev pub AreSorted : List (Bor (List Name)) → Type 0
AreSorted lines =
    IsSorted (λ (a b : Bor (List Name)). slice_cmp name_cmp a.now b.now) lines

-- a proper front of the line is one of the lines
abbrev pub HasFront : List (List Name) → List Name → Type 0
HasFront lines line = (k : ℕ) × (k < length line) × Contains lines (take k line)

-- whether one of the lines leads to a proper ancestor of the line's node
abbrev pub is_below_any : List (List Name) → List Name → Bool
is_below_any lines line = list_any (λ front. is_ancestor front line) lines
