-- How many nodes are out of the pool, and how many Stops may have to be queued: what the events
-- do to
-- these numbers. So a death needs no memory.
use Rattle.std.specs.Prelude.{◌≡◌, ℕ, ℤ, ◌+◌, ◌<◌, ◌≤◌, List, [], length, Option, Some, slice_set}
use Rattle.ug_nodes.specs.declared.name.Ticket.{Ticket}
use Rattle.ug_nodes.specs.declared.name.Name.{Name}
use Rattle.ug_nodes.specs.declared.change.Change.{Change}
use Rattle.ug_pool.specs.declared.entry.Entry.{Entry}
use Rattle.ug_frames.specs.declared.report.Ending.{Ending}
use Rattle.ug_frames.specs.declared.report.Report.{Report}
use Rattle.ug_frames.specs.declared.report.Report.TheVariants.{Hand, Done}
use Rattle.ug_ranks.specs.declared.state.Racer.{Racer}
use Rattle.ug_ranks.specs.declared.state.Work.{Work}
use Rattle.ug_ranks.specs.declared.state.Off.TheVariants.{Died}
use Rattle.ug_ranks.specs.declared.state.State.{State}
use Rattle.ug_ranks.specs.declared.state.State.TheVariants.{Racing, Active, Dead}
use Rattle.ug_ranks.specs.States.{state_at}
use Rattle.ug_rules.specs.declared.heard.Heard.{Heard}
use Rattle.ug_rules.specs.State.{BookState, held_nodes, node_at, nodes_of, raced_node}
use Rattle.ug_rules.specs.Ranks.{racers_freed, ranks_that}
use Rattle.ug_ranks.specs.Looks.{is_racing}
use Rattle.ug_rules.specs.Deaths.{called_off, killed, stops_below}
use Rattle.ug_rules.specs.Hearing.{after_hearing, kept}

-- the nodes out of the pool: those that ranks work on, and the one that is raced
abbrev pub nodes_out : BookState → ℕ
nodes_out b = length (nodes_of b.ranks) + length (raced_node b.raced)

-- all others that are held are in the pool
abbrev pub HeldAreInOrOut : Type 0
HeldAreInOrOut = (b : BookState) → length (held_nodes b) ≡ length b.pool + nodes_out b

-- a state written takes what the old one worked on, and brings what the new one does
abbrev pub WritingCounts : Type 0
WritingCounts =
    (states : List State) (r : ℕ) (state : State) → r < length states
    → length (nodes_of (slice_set states r state)) + length (node_at (state_at states r))
    ≡ length (nodes_of states) + length (node_at state)

-- ranks called off, and racers freed, work on no more
abbrev pub CallingOffTakesNone : Type 0
CallingOffTakesNone =
    (line : List Name) (states : List State)
    → length (nodes_of (called_off line states)) ≤ length (nodes_of states)

abbrev pub FreeingTakesNone : Type 0
FreeingTakesNone =
    (states : List State) → length (nodes_of (racers_freed states)) ≤ length (nodes_of states)

-- if the loss of a rank puts a node into the pool, one node fewer at least is out: that of a rank
-- that works
abbrev pub DeathMakesRoom : Type 0
DeathMakesRoom =
    (b : BookState) (r : ℕ) (work : Work) → r < length b.ranks → state_at b.ranks r ≡ Active work
    → nodes_out (killed r b) + 1 ≤ nodes_out b

-- and that of the last racer
abbrev pub LostRaceMakesRoom : Type 0
LostRaceMakesRoom =
    (b : BookState) (r : ℕ) (racer : Racer) (entry : Entry) → r < length b.ranks
    → state_at b.ranks r ≡ Racing racer → b.raced ≡ Some entry
    → ranks_that is_racing (slice_set b.ranks r (Dead Died)) ≡ []
    → nodes_out (killed r b) + 1 ≤ nodes_out b

-- a Done of a rank that works takes its node
abbrev pub DoneMakesRoom : Type 0
DoneMakesRoom =
    (b : BookState) (r : ℕ) (work : Work) (ticket : Ticket) (told : Option ℤ) (count : ℕ)
    (ending : Ending) → r < length b.ranks → state_at b.ranks r ≡ Active work
    → nodes_out (kept r (Done ticket told count ending) b) + 1 ≡ nodes_out b

-- a hand leaves as many out: its own node goes to the pool
abbrev pub HandLeavesAsMany : Type 0
HandLeavesAsMany =
    (b : BookState) (r : ℕ) (ticket : Ticket) (number : ℕ) (changes : List Change)
    → nodes_out (kept r (Hand ticket number changes) b) ≡ nodes_out b

-- whatever is received, and whoever is lost, no more are out
abbrev pub DeathTakesNone : Type 0
DeathTakesNone = (b : BookState) (r : ℕ) → r < length b.ranks → nodes_out (killed r b) ≤ nodes_out b

abbrev pub HearingTakesNone : Type 0
HearingTakesNone =
    (b : BookState) (r : ℕ) (report : Report) (answer : Heard) → r < length b.ranks
    → nodes_out (after_hearing answer r report b) ≤ nodes_out b

-- the Stops of a death are those of the ranks called off, one for each
abbrev pub StopsAreOfCalledOff : Type 0
StopsAreOfCalledOff =
    (line : List Name) (states : List State)
    → length (stops_below line states) + length (nodes_of (called_off line states))
    ≡ length (nodes_of states)

-- the places of the queue that are taken, or would be if a Stop were queued for each rank that
-- works
abbrev pub places_due : BookState → ℕ
places_due b = length b.orders + length (nodes_of b.ranks)

-- so neither the loss of a rank nor a report needs a place that was not reserved for it; the loss
-- of a rank that works leaves one
abbrev pub DeathLeavesPlaces : Type 0
DeathLeavesPlaces =
    (b : BookState) (r : ℕ) (work : Work) → r < length b.ranks → state_at b.ranks r ≡ Active work
    → places_due (killed r b) + 1 ≡ places_due b

abbrev pub HearingTakesNoPlace : Type 0
HearingTakesNoPlace =
    (b : BookState) (r : ℕ) (report : Report) (answer : Heard) → r < length b.ranks
    → places_due (after_hearing answer r report b) ≤ places_due b
