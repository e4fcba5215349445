-- Taking a report up takes no place that was kept for a node that is out, or for a Stop.
use Rattle.std.proofs.Common.{◌≡◌, ℕ, ◌<◌, length, refl, ap, arith, if◌then◌else◌}
use Rattle.std.specs.Prelude.{List}
use Rattle.std.proofs.lemmas.List.{length-map, length-set}
use Rattle.ug_problem.specs.Instances.{root_of}
use Rattle.ug_nodes.specs.declared.change.Change.{Change}
use Rattle.ug_nodes.specs.Changes.{area_by}
use Rattle.ug_frames.specs.declared.report.Report.{Report}
use Rattle.ug_frames.specs.declared.report.Report.TheVariants.{Ready, Solution, Hand, State as Reported, Done, Ended}
use Rattle.ug_ranks.specs.declared.state.State.{State}
use Rattle.ug_ranks.specs.declared.state.State.TheVariants.{Absent, Idle, Racing, Active, Dead}
use Rattle.ug_ranks.specs.States.{state_at}
use Rattle.ug_ranks.specs.Changes.{grown, joined, noted}
use Rattle.ug_ranks.specs.Looks.{is_racing}
use Rattle.ug_rules.specs.Hearing.{done_at, handed_at, kept, taken_up}
use Rattle.ug_rules.specs.declared.heard.Heard.{Heard}
use Rattle.ug_rules.specs.declared.heard.Heard.TheVariants.{Kept, Stale, Early, Broken, NotBetter, InRace, Again, Gap, Outside, Unbacked, Short, Memory}
use Rattle.ug_rules.specs.State.{BookState, nodes_of, raced_node}
use Rattle.ug_rules.proofs.RoomLemmas.{TakesNone, kept_takes_none}
use Rattle.ug_stock.specs.declared.frontier.Frontier.{Frontier}
use Rattle.ug_stock.specs.Frontiers.{HasRoom, with_frontier}

nothing : (b : BookState) → TakesNone b b
nothing b = record { work = omega arith; raced = omega arith; orders = omega arith }

pub taken_takes_none : (b : BookState) (answer : Heard) (r : ℕ) (report : Report)
    → r < length b.ranks → TakesNone b (taken_up answer r report b)
taken_takes_none b Kept r report l = kept_takes_none b r report l
taken_takes_none b Stale r report l = nothing b
taken_takes_none b Early r report l = nothing b
taken_takes_none b (Broken first) r report l = nothing b
taken_takes_none b (NotBetter was given) r report l = nothing b
taken_takes_none b InRace r report l = nothing b
taken_takes_none b Again r report l = nothing b
taken_takes_none b (Gap want got) r report l = nothing b
taken_takes_none b (Outside column) r report l = nothing b
taken_takes_none b (Unbacked cutoff incumbent) r report l = nothing b
taken_takes_none b (Short said was) r report l = nothing b
taken_takes_none b Memory r report l = nothing b

-- so there is room still
pub room_taken : (b : BookState) (old new : Frontier) (answer : Heard) (r : ℕ) (report : Report)
    → r < length old.ranks
    → with_frontier b new ≡ taken_up answer r report (with_frontier b old)
    → new.pool.spare ≡ old.pool.spare → new.orders.spare ≡ old.orders.spare → HasRoom old
    → HasRoom new
room_taken b old new answer r report l e pool orders room =
    let none = taken_takes_none (with_frontier b old) answer r report l in
    let work = ap (λ (k : BookState). length (nodes_of k.ranks)) e in
    let raced = ap (λ (k : BookState). length (raced_node k.raced)) e in
    record {
      pool = omega (arith, none.work, none.raced, work, raced, pool, room.pool);
      orders = omega (arith, none.work, work, orders, room.orders);
    }

done_wide : (s : State) (r : ℕ) (b : BookState)
    → length (done_at s r b).ranks ≡ length b.ranks
done_wide Absent r b = refl
done_wide Idle r b = refl
done_wide (Racing racer) r b =
    length-map b.ranks (λ (state : State). if is_racing state then Idle else state)
done_wide (Active work) r b = length-set b.ranks r Idle
done_wide (Dead how) r b = refl

handed_wide : (s : State) (r : ℕ) (changes : List Change) (b : BookState)
    → length (handed_at s r changes b).ranks ≡ length b.ranks
handed_wide Absent r changes b = refl
handed_wide Idle r changes b = refl
handed_wide (Racing racer) r changes b = refl
handed_wide (Active work) r changes b = length-set b.ranks r
    (grown (area_by (root_of b.problem) changes) (state_at b.ranks r))
handed_wide (Dead how) r changes b = refl

kept_wide : (r : ℕ) (report : Report) (b : BookState)
    → length (kept r report b).ranks ≡ length b.ranks
kept_wide r Ready b = length-set b.ranks r (joined (state_at b.ranks r))
kept_wide r (Solution ticket x) b = refl
kept_wide r (Hand ticket number changes) b = handed_wide (state_at b.ranks r) r changes b
kept_wide r (Reported ticket count floor) b =
    length-set b.ranks r (noted count floor (state_at b.ranks r))
kept_wide r (Done ticket told count ending) b = done_wide (state_at b.ranks r) r b
kept_wide r Ended b = refl

-- and there are as many ranks
pub taken_wide : (b : BookState) (answer : Heard) (r : ℕ) (report : Report)
    → length (taken_up answer r report b).ranks ≡ length b.ranks
taken_wide b Kept r report = kept_wide r report b
taken_wide b Stale r report = refl
taken_wide b Early r report = refl
taken_wide b (Broken first) r report = refl
taken_wide b (NotBetter was given) r report = refl
taken_wide b InRace r report = refl
taken_wide b Again r report = refl
taken_wide b (Gap want got) r report = refl
taken_wide b (Outside column) r report = refl
taken_wide b (Unbacked cutoff incumbent) r report = refl
taken_wide b (Short said was) r report = refl
taken_wide b Memory r report = refl

-- so a death that follows has its rank
pub rank_taken : (b new : BookState) (answer : Heard) (r : ℕ) (report : Report)
    → r < length b.ranks → new ≡ taken_up answer r report b → r < length new.ranks
rank_taken b new answer r report l e =
    let wide = ap (λ (k : BookState). length k.ranks) e in
    omega (arith, l, wide, taken_wide b answer r report)
