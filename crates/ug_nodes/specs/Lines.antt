-- How lines of names stand to one another.
use Rattle.std.specs.Prelude.{◌≡◌, ℕ, ◌<◌, Bool, true, false, ◌&&◌, ◌==◌, List, [], ◌∷◌, ◌++◌}
use Rattle.std.specs.Prelude.{length, slice_index_or}
use Rattle.ug_nodes.specs.declared.name.Name.{Name}
use Rattle.ug_nodes.specs.Names.{IsTicketBefore, no_name}

-- name k of a line
abbrev pub line_name_at : List Name → ℕ → Name
line_name_at line k = slice_index_or line k no_name

-- the line begins with the front
abbrev pub BeginsWith : List Name → List Name → Type 0
BeginsWith line front = (rest : List Name) × (line ≡ front ++ rest)

-- the line begins with the front followed by the name
abbrev pub GoesOn : List Name → List Name → Name → Type 0
GoesOn line front name = (rest : List Name) × (line ≡ front ++ name ∷ rest)

-- the front's node is a proper ancestor of the line's: the line begins with it and some name more
abbrev pub IsAncestor : List Name → List Name → Type 0
IsAncestor front line = (name : Name) × GoesOn line front name

-- whether two names are the same
abbrev pub is_same_name : Name → Name → Bool
is_same_name a b =
    (a.ticket.run == b.ticket.run) && (a.ticket.number == b.ticket.number) && (a.hand == b.hand)

-- whether the front's node is a proper ancestor of the line's
abbrev pub is_ancestor : List Name → List Name → Bool
is_ancestor [] [] = false
is_ancestor (_ ∷ _) [] = false
is_ancestor [] (_ ∷ _) = true
is_ancestor (first ∷ front) (name ∷ line) = is_same_name first name && is_ancestor front line

-- the tickets of the names rise strictly
abbrev pub DoTicketsRise : List Name → Type 0
DoTicketsRise line =
    (i k : ℕ) → i < k → k < length line
    → IsTicketBefore (line_name_at line i).ticket (line_name_at line k).ticket
