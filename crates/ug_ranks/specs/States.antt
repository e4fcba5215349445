-- What ranks are at.
use Rattle.std.specs.Prelude.{ℕ, ℤ, List, Option, Some, None, slice_index_or}
use Rattle.ug_nodes.specs.declared.node.Node.{Node}
use Rattle.ug_ranks.specs.declared.state.Off.TheVariants.{Died}
use Rattle.ug_ranks.specs.declared.state.State.{State}
use Rattle.ug_ranks.specs.declared.state.State.TheVariants.{Racing, Active, Dead}

-- the state of a rank
abbrev pub state_at : List State → ℕ → State
state_at states r = slice_index_or states r (Dead Died)

-- the node that a rank works on, with its floor
abbrev pub held_by : State → Option (Node × ℤ)
held_by (Active work) = Some (work.node, work.floor)
held_by state = None

-- the rank takes part in a race
abbrev pub IsRacing : State → Type 0
IsRacing (Racing racer) = Unit {0}
IsRacing state = ⊥
