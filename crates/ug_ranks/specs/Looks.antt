-- Readings of the state of a rank.
use Rattle.std.specs.Prelude.{if◌then◌else◌, ℕ, Bool, true, false, List, [], length, Option, Some}
use Rattle.std.specs.Prelude.{None}
use Rattle.ug_rows.specs.declared.area.Interval.{Interval}
use Rattle.ug_nodes.specs.declared.name.Name.{Name}
use Rattle.ug_nodes.specs.declared.name.Ticket.{Ticket}
use Rattle.ug_nodes.specs.Lines.{is_ancestor}
use Rattle.ug_ranks.specs.declared.state.State.{State}
use Rattle.ug_ranks.specs.declared.state.State.TheVariants.{Absent, Idle, Racing, Active, Dead}

abbrev pub is_absent : State → Bool
is_absent Absent = true
is_absent state = false

abbrev pub is_idle : State → Bool
is_idle Idle = true
is_idle state = false

abbrev pub is_racing : State → Bool
is_racing (Racing racer) = true
is_racing state = false

-- the rank works on a node of its own
abbrev pub is_working : State → Bool
is_working (Active work) = true
is_working state = false

-- the rank has joined and is not dead
abbrev pub is_joined : State → Bool
is_joined Absent = false
is_joined Idle = true
is_joined (Racing racer) = true
is_joined (Active work) = true
is_joined (Dead how) = false

abbrev pub is_alive : State → Bool
is_alive Absent = true
is_alive Idle = true
is_alive (Racing racer) = true
is_alive (Active work) = true
is_alive (Dead how) = false

-- the ticket of a rank, if it has one
abbrev pub ticket_at : State → Option Ticket
ticket_at (Racing racer) = Some racer.ticket
ticket_at (Active work) = Some work.ticket
ticket_at state = None

-- the ticket of a racer
abbrev pub racer_ticket : State → Option Ticket
racer_ticket (Racing racer) = Some racer.ticket
racer_ticket state = None

-- the ticket of a rank that works
abbrev pub work_ticket : State → Option Ticket
work_ticket (Active work) = Some work.ticket
work_ticket state = None

-- the ticket of a rank that works below the line's node
abbrev pub ticket_below : List Name → State → Option Ticket
ticket_below line (Active work) =
    (if is_ancestor line work.node.line then Some work.ticket else None)
ticket_below line state = None

-- the boxes of the hands that were taken from the rank under its ticket
abbrev pub taken_at : State → List (List Interval)
taken_at (Active work) = work.taken
taken_at state = []

-- how many there are
abbrev pub hands_taken : State → ℕ
hands_taken (Active work) = length work.taken
hands_taken state = 0

-- how many hands the rank is still asked for
abbrev pub asked_at : State → ℕ
asked_at (Active work) = work.asked
asked_at state = 0
