-- How many nodes ranks work on.
use Rattle.std.proofs.Common.{◌≤◌, List, [], ◌∷◌, length, arith}
use Rattle.std.proofs.lemmas.List.{length-append}
use Rattle.ug_ranks.specs.declared.state.State.{State}
use Rattle.ug_ranks.specs.declared.state.State.TheVariants.{Absent, Idle, Racing, Active, Dead}
use Rattle.ug_rules.specs.State.{node_at, nodes_of}

pub at_most_one_node : (s : State) → length (node_at s) ≤ 1
at_most_one_node Absent = omega arith
at_most_one_node Idle = omega arith
at_most_one_node (Racing racer) = omega arith
at_most_one_node (Active work) = omega arith
at_most_one_node (Dead how) = omega arith

-- no more than there are ranks
pub few_work : (ss : List State) → length (nodes_of ss) ≤ length ss
few_work [] = omega arith
few_work (s ∷ ss) =
    omega (arith, few_work ss, at_most_one_node s, length-append (node_at s) (nodes_of ss))
