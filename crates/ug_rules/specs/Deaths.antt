-- What the death of a rank does: its node takes in what is held below, and goes back.
use Rattle.std.specs.Prelude.{if◌then◌else◌, ℕ, Bool, false, List, [], ◌∷◌, ◌++◌, Option, Some}
use Rattle.std.specs.Prelude.{None, map, slice_set}
use Rattle.ug_nodes.specs.declared.name.Name.{Name}
use Rattle.ug_nodes.specs.Lines.{is_ancestor}
use Rattle.ug_pool.specs.declared.entry.Entry.{Entry}
use Rattle.ug_pool.specs.Pools.{with_entry, without_below}
use Rattle.ug_frames.specs.declared.order.Order.TheVariants.{Stop}
use Rattle.ug_ranks.specs.declared.state.Work.{Work}
use Rattle.ug_ranks.specs.declared.state.Off.TheVariants.{Died}
use Rattle.ug_ranks.specs.declared.state.State.{State}
use Rattle.ug_ranks.specs.declared.state.State.TheVariants.{Absent, Idle, Racing, Active, Dead}
use Rattle.ug_ranks.specs.States.{state_at}
use Rattle.ug_rules.specs.declared.told.Told.{Told}
use Rattle.ug_rules.specs.State.{BookState}
use Rattle.ug_rules.specs.Ranks.{of_ranks, ranks_that}
use Rattle.ug_ranks.specs.Looks.{is_racing}

-- whether the rank works on a node below that of the line
abbrev pub works_below : List Name → State → Bool
works_below line (Active work) = is_ancestor line work.node.line
works_below line state = false

-- the ranks that work below the line's node are idle
abbrev pub called_off : List Name → List State → List State
called_off line states = map
    (λ (state : State). if works_below line state then Idle else state) states

-- the Stop of a rank that works below the line's node
abbrev pub stop_at : List Name → ℕ → State → List Told
stop_at line r (Active work) =
    (if is_ancestor line work.node.line
    then record { rank = r; order = Stop work.ticket } ∷ []
    else [])
stop_at line r state = []

-- the Stops of the ranks that work below the line's node, the lowest rank first
abbrev pub stops_below : List Name → List State → List Told
stops_below line states = of_ranks (stop_at line) 0 states

-- the nodes held below the line's node were dropped, and the ranks that worked on them are sent a
-- Stop
abbrev pub taken_in : List Name → BookState → BookState
taken_in line b = record b {
  pool = without_below line b.pool;
  ranks = called_off line b.ranks;
  orders = b.orders ++ stops_below line b.ranks;
}

-- the rank is dead
abbrev pub with_dead : ℕ → BookState → BookState
with_dead r b = record b { ranks = slice_set b.ranks r (Dead Died) }

-- the entry of a node that a rank works on
abbrev pub entry_of : Work → Entry
entry_of work = record { floor = work.floor; node = work.node }

-- the node of the entry is in the pool
abbrev pub put_back : Entry → BookState → BookState
put_back entry b = record b { pool = with_entry entry b.pool }

-- the raced node returns to the pool, if no racer is left
abbrev pub lost_by : List ℕ → Option Entry → BookState → BookState
lost_by (r ∷ rs) raced b = b
lost_by [] None b = b
lost_by [] (Some entry) b = put_back entry (record b { raced = None })

-- the raced node goes back to the pool where no racer is left
abbrev pub race_lost : BookState → BookState
race_lost b = lost_by (ranks_that is_racing b.ranks) b.raced b

-- what the death of a rank in this state does
abbrev pub killed_at : State → ℕ → BookState → BookState
killed_at Absent r b = with_dead r b
killed_at Idle r b = with_dead r b
killed_at (Racing racer) r b = race_lost (with_dead r b)
killed_at (Active work) r b = put_back (entry_of work) (taken_in work.node.line (with_dead r b))
killed_at (Dead how) r b = b

-- the rank was lost
abbrev pub killed : ℕ → BookState → BookState
killed r b = killed_at (state_at b.ranks r) r b
