-- How many nodes are out of the pool, and that a hand leaves their places, and those of the Stops.
use Rattle.std.proofs.Common.{◌≡◌, ℕ, ◌+◌, ◌<◌, ◌≤◌, List, length, take, set, ap, refl, arith, Result, Ok, Err}
use Rattle.std.specs.Prelude.{Option, None, Some, OnOk, OnErr}
use Rattle.std.proofs.lemmas.List.{length-take}
use Rattle.ug_rows.specs.declared.area.Interval.{Interval}
use Rattle.ug_rows.specs.declared.row.Objective.{Objective}
use Rattle.ug_nodes.specs.declared.change.Change.{Change}
use Rattle.ug_nodes.specs.Changes.{area_by}
use Rattle.ug_pool.specs.declared.entry.Entry.{Entry}
use Rattle.ug_pool.specs.Pools.{Pooled}
use Rattle.ug_ranks.specs.declared.state.State.{State}
use Rattle.ug_ranks.specs.declared.state.State.TheVariants.{Absent, Idle, Racing, Active, Dead}
use Rattle.ug_ranks.specs.States.{state_at}
use Rattle.ug_ranks.specs.Changes.{grown}
use Rattle.ug_rules.specs.State.{node_at, nodes_of, raced_node}
use Rattle.ug_rules.proofs.RoomLemmas.{writing_counts}
use Rattle.ug_stock.specs.declared.frontier.Frontier.{Frontier}
use Rattle.ug_stock.specs.Hands.{IsHandTaken, IsNothingTaken, IsWorking}
use Rattle.ug_stock.specs.Frontiers.{HasRoom}
use Rattle.ug_stock.proofs.Works.{few_work}

pub few_first : (ss : List State) (k : ℕ) → length (nodes_of (take k ss)) ≤ length ss
few_first ss k = omega (arith, few_work (take k ss), length-take k ss)

-- and at most one is raced
pub few_raced : (raced : Option Entry) → length (raced_node raced) ≤ 1
few_raced None = omega arith
few_raced (Some entry) = omega arith

-- a rank that hands works on the same node
pub same_work : (ss : List State) (r : ℕ) (area : List Interval) → r < length ss
    → length (nodes_of (set ss r (grown area (state_at ss r)))) ≡ length (nodes_of ss)
same_work ss r area there =
    omega (arith, writing_counts ss r (grown area (state_at ss r)) there, one (state_at ss r))
  where
    one : (s : State) → length (node_at (grown area s)) ≡ length (node_at s)
    one Absent = refl
    one Idle = refl
    one (Racing racer) = refl
    one (Active work) = refl
    one (Dead how) = refl

-- with a place more than nodes are out, each still has one after a hand
pub room_kept : {A E : Type 0} (result : Result A E) (objective : Objective)
    (root : List Interval) (rank : ℕ) (changes : List Change) (s : Frontier) (new : List State)
    (old_pool new_pool : Pooled) → rank < length s.ranks → IsWorking (state_at s.ranks rank)
    → length (nodes_of s.ranks) + length (raced_node s.raced) + 1 ≤ old_pool.spare → HasRoom s
    → OnOk result (IsHandTaken objective root rank changes s.ranks old_pool new new_pool)
    → OnErr result (IsNothingTaken s.ranks old_pool new new_pool)
    → HasRoom (record s { pool = new_pool; ranks = new })
room_kept (Ok value) objective root rank changes s new old_pool new_pool there works places room ok
    err =
    by (state_at s.ranks rank) refl works
  where
    area : List Interval
    area = area_by root changes

    by : (t : State) → state_at s.ranks rank ≡ t → IsWorking t
        → HasRoom (record s { pool = new_pool; ranks = new })
    by (Active work) is w =
        let same = ap (λ (ss : List State). length (nodes_of ss)) ok.ranks in
        let alike = same_work s.ranks rank area there in
        record {
          pool = omega (arith, places, (ok.pool work is).spare, same, alike);
          orders = omega (arith, room.orders, same, alike);
        }
    by Absent is w = absurd w
    by Idle is w = absurd w
    by (Racing racer) is w = absurd w
    by (Dead how) is w = absurd w
room_kept (Err error) objective root rank changes s new old_pool new_pool there works places room ok
    err =
    let same = ap (λ (ss : List State). length (nodes_of ss)) err.ranks in
    let pool = ap (λ (p : Pooled). p.spare) err.pool in
    record {
      pool = omega (arith, places, same, pool);
      orders = omega (arith, room.orders, same);
    }
