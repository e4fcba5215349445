-- The bytes of a frame and of its parts.
use Rattle.std.specs.Prelude.{ℕ, ℤ, List, [], ◌∷◌, ◌++◌, length, Bool, if◌then◌else◌}
use Rattle.std.specs.List.{flat_map}
use Rattle.ug_nodes.specs.declared.name.Ticket.{Ticket}
use Rattle.ug_nodes.specs.declared.change.Change.{Change}
use Rattle.ug_branch.specs.declared.params.Params.{Params}
use Rattle.ug_branch.specs.Numbers.{number_of}
use Rattle.ug_fields.specs.Spelling.{count_field, bound_field, long_field}

-- a frame: how many bytes it has behind this number, and those
unfoldable pub framed : List ℕ → List ℕ
framed bytes = count_field (length bytes) ++ bytes

-- a ticket: its run and its number
unfoldable pub ticket_fields : Ticket → List ℕ
ticket_fields ticket = long_field ticket.run ++ long_field ticket.number

-- params: their number
abbrev pub params_field : Params → List ℕ
params_field params = number_of params ∷ []

-- whether others have the same box: 1 where they do, or 0
abbrev pub race_field : Bool → List ℕ
race_field race = (if race then 1 else 0) ∷ []

-- a change: its column and its bounds
unfoldable pub change_fields : Change → List ℕ
change_fields c = count_field c.column ++ bound_field c.low ++ bound_field c.high

-- changes: how many there are, and each
unfoldable pub changes_fields : List Change → List ℕ
changes_fields changes = count_field (length changes) ++ flat_map change_fields changes

-- a point: how many values it has, and each
unfoldable pub point_fields : List ℤ → List ℕ
point_fields x = count_field (length x) ++ flat_map bound_field x
