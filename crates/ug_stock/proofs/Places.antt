-- How many nodes ranks work on after one was given another part.
use Rattle.std.proofs.Common.{◌≡◌, ℕ, ◌+◌, ◌<◌, List, length, ap, arith}
use Rattle.std.specs.Prelude.{slice_set}
use Rattle.ug_ranks.specs.declared.state.Racer.{Racer}
use Rattle.ug_ranks.specs.declared.state.Work.{Work}
use Rattle.ug_ranks.specs.declared.state.State.{State}
use Rattle.ug_ranks.specs.declared.state.State.TheVariants.{Idle, Active, Racing}
use Rattle.ug_ranks.specs.States.{state_at}
use Rattle.ug_rules.specs.State.{node_at, nodes_of}
use Rattle.ug_rules.proofs.RoomLemmas.{writing_counts}

-- an idle rank that was given a node
pub one_works : (ss : List State) (r : ℕ) (w : Work) → r < length ss → state_at ss r ≡ Idle
    → length (nodes_of (slice_set ss r (Active w))) ≡ length (nodes_of ss) + 1
one_works ss r w there idle =
    let own = ap (λ (s : State). length (node_at s)) idle in
    omega (arith, own, writing_counts ss r (Active w) there)

-- an idle rank that races
pub none_works : (ss : List State) (r : ℕ) (racer : Racer) → r < length ss
    → state_at ss r ≡ Idle
    → length (nodes_of (slice_set ss r (Racing racer))) ≡ length (nodes_of ss)
none_works ss r racer there idle =
    let own = ap (λ (s : State). length (node_at s)) idle in
    omega (arith, own, writing_counts ss r (Racing racer) there)
