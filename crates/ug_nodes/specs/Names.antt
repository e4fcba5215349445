-- The order of tickets and of names, and the own name of a line.
use Rattle.std.specs.Prelude.{◌≡◌, ◌<◌, ◌-◌, ◌⊎◌, List, length, slice_index_or}
use Rattle.std.specs.declared.cmp.Ordering.{Ordering}
use Rattle.std.specs.Ordering.{nat_cmp, ordering_then}
use Rattle.ug_nodes.specs.declared.name.Ticket.{Ticket}
use Rattle.ug_nodes.specs.declared.name.Name.{Name}

-- a ticket is before another if its run is earlier, or the run is the same and its number smaller
abbrev pub IsTicketBefore : Ticket → Ticket → Type 0
IsTicketBefore a b = (a.run < b.run) ⊎ ((a.run ≡ b.run) × (a.number < b.number))

-- a name is before another if its ticket is, or the ticket is the same and its hand number smaller
abbrev pub IsNameBefore : Name → Name → Type 0
IsNameBefore a b = IsTicketBefore a.ticket b.ticket ⊎ ((a.ticket ≡ b.ticket) × (a.hand < b.hand))

-- how a ticket stands to another: by the runs, then by the numbers
abbrev pub ticket_cmp : Ticket → Ticket → Ordering
ticket_cmp a b = ordering_then (nat_cmp a.run b.run) (nat_cmp a.number b.number)

-- how a name stands to another: by the tickets, then by the hand numbers
abbrev pub name_cmp : Name → Name → Ordering
name_cmp a b = ordering_then (ticket_cmp a.ticket b.ticket) (nat_cmp a.hand b.hand)

-- a name that stands for one that is not there
abbrev pub no_name : Name
no_name = record { ticket = record { run = 0; number = 0 }; hand = 0 }

-- the name of the node to which a line leads: the last
abbrev pub own_name : List Name → Name
own_name line = slice_index_or line (length line - 1) no_name
