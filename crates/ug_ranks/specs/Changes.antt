-- What becomes of the state of a rank.
use Rattle.std.specs.Prelude.{ℕ, ℤ, pos, ◌-◌, List, [], ◌∷◌, ◌++◌}
use Rattle.ug_rows.specs.declared.area.Interval.{Interval}
use Rattle.ug_branch.specs.declared.params.Params.{Params}
use Rattle.ug_nodes.specs.declared.name.Ticket.{Ticket}
use Rattle.ug_nodes.specs.declared.node.Node.{Node}
use Rattle.ug_ranks.specs.declared.state.Racer.{Racer}
use Rattle.ug_ranks.specs.declared.state.Work.{Work}
use Rattle.ug_ranks.specs.declared.state.State.{State}
use Rattle.ug_ranks.specs.declared.state.State.TheVariants.{Absent, Idle, Racing, Active, Dead}

-- the work on a node that was just given
abbrev pub work_of : Ticket → Node → ℤ → Params → Work
work_of ticket node floor params = record {
  ticket = ticket;
  node = node;
  floor = floor;
  params = params;
  taken = [];
  «open» = 0;
  reported = pos 0;
  asked = 0;
}

-- a part in a race that just began
abbrev pub racer_of : Ticket → Params → Racer
racer_of ticket params = record { ticket = ticket; params = params; «open» = 0; floor = pos 0 }

-- the state of a rank that joined: idle, where it was absent or dead
abbrev pub joined : State → State
joined Absent = Idle
joined (Dead how) = Idle
joined state = state

-- the state with the node the rank's own, where it took part in a race
abbrev pub won : Node → ℤ → State → State
won node floor (Racing racer) = Active (record (work_of racer.ticket node floor racer.params) {
  «open» = racer.«open»;
  reported = racer.floor;
})
won node floor state = state

-- the state with this for the last report, where the rank works or races
abbrev pub noted : ℕ → ℤ → State → State
noted count floor (Racing racer) = Racing (record racer { «open» = count; floor = floor })
noted count floor (Active work) = Active (record work { «open» = count; reported = floor })
noted count floor state = state

-- the state with this many hands asked, where the rank works
abbrev pub asked_for : ℕ → State → State
asked_for count (Active work) = Active (record work { asked = count })
asked_for count state = state

-- the state with a box more taken and a hand fewer asked, if any was, where the rank works
abbrev pub grown : List Interval → State → State
grown area (Active work) =
    Active (record work { taken = work.taken ++ area ∷ []; asked = work.asked - 1 })
grown area state = state
