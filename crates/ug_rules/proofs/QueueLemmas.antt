-- How many places of the queue are taken, or may be by Stops, after each event.
use Rattle.std.proofs.Common.{◌≡◌, ℕ, ◌+◌, ◌<◌, ◌≤◌, Bool, true, false, List, [], ◌∷◌, ◌++◌, length, refl, ap, sym, subst, arith, length-append}
use Rattle.std.specs.Prelude.{if◌then◌else◌, Option, Some, None, slice_set}
use Rattle.ug_nodes.specs.declared.name.Name.{Name}
use Rattle.ug_nodes.specs.declared.node.Node.{Node}
use Rattle.ug_nodes.specs.Lines.{is_ancestor}
use Rattle.ug_pool.specs.declared.entry.Entry.{Entry}
use Rattle.ug_frames.specs.declared.order.Order.TheVariants.{Stop}
use Rattle.ug_ranks.specs.declared.state.Work.{Work}
use Rattle.ug_ranks.specs.declared.state.Off.TheVariants.{Died}
use Rattle.ug_ranks.specs.declared.state.State.{State}
use Rattle.ug_ranks.specs.declared.state.State.TheVariants.{Absent, Idle, Racing, Active, Dead}
use Rattle.ug_ranks.specs.States.{state_at}
use Rattle.ug_rules.specs.declared.told.Told.{Told}
use Rattle.ug_rules.specs.State.{BookState, node_at, nodes_of}
use Rattle.ug_rules.specs.Ranks.{of_ranks, ranks_that}
use Rattle.ug_ranks.specs.Looks.{is_racing}
use Rattle.ug_rules.specs.Deaths.{called_off, killed, killed_at, lost_by, stop_at, stops_below, with_dead}
use Rattle.ug_rules.specs.Room.{DeathLeavesPlaces, HearingTakesNoPlace, StopsAreOfCalledOff, places_due}
use Rattle.ug_rules.proofs.RoomLemmas.{free_counts, kept_takes_none}
use Rattle.ug_rules.proofs.AnswerLemmas.{under_answer}

-- one Stop for each rank called off
stops_from : (line : List Name) (k : ℕ) (ss : List State)
    → length (of_ranks (stop_at line) k ss) + length (nodes_of (called_off line ss))
    ≡ length (nodes_of ss)
stops_from line k [] = omega arith
stops_from line k (Absent ∷ ss) = stops_from line (k + 1) ss
stops_from line k (Idle ∷ ss) = stops_from line (k + 1) ss
stops_from line k (Racing racer ∷ ss) = stops_from line (k + 1) ss
stops_from line k (Dead how ∷ ss) = stops_from line (k + 1) ss
stops_from line k (Active work ∷ ss) =
    by (is_ancestor line work.node.line) (of_ranks (stop_at line) (k + 1) ss)
    (nodes_of (called_off line ss)) (stops_from line (k + 1) ss)
  where
    by : (below : Bool) (stops : List Told) (ns : List Node)
        → length stops + length ns ≡ length (nodes_of ss)
        → length
        ((if below then record { rank = k; order = Stop work.ticket } ∷ [] else []) ++ stops)
        + length (node_at (if below then Idle else Active work) ++ ns)
        ≡ length (nodes_of (Active work ∷ ss))
    by true stops ns rest = omega (arith, rest)
    by false stops ns rest = omega (arith, rest)

pub stops_are_of_called_off : StopsAreOfCalledOff
stops_are_of_called_off line ss = stops_from line 0 ss

-- the death of a rank that works
death_at_work : (b : BookState) (r : ℕ) (work : Work) → r < length b.ranks
    → state_at b.ranks r ≡ Active work → places_due (killed_at (Active work) r b) + 1 ≡ places_due b
death_at_work b r work l is =
    let dead = slice_set b.ranks r (Dead Died) in
    let stops = stops_are_of_called_off work.node.line dead in
    let queued = length-append b.orders (stops_below work.node.line dead) in
    let own : length (node_at (state_at b.ranks r)) ≡ 1 =
    ap (λ (s : State). length (node_at s)) is in
    omega (arith, stops, queued, free_counts b r (Dead Died) l refl, own)

pub death_leaves_places : DeathLeavesPlaces
death_leaves_places b r work l is =
    subst (λ s. places_due (killed_at s r b) + 1 ≡ places_due b) (sym is)
    (death_at_work b r work l is)

lost_places : (b : BookState) (r : ℕ) → r < length b.ranks → (rs : List ℕ) (raced : Option Entry)
    → places_due (lost_by rs raced (with_dead r b)) ≤ places_due b
lost_places b r l (q ∷ rs) raced = omega (arith, free_counts b r (Dead Died) l refl)
lost_places b r l [] None = omega (arith, free_counts b r (Dead Died) l refl)
lost_places b r l [] (Some entry) = omega (arith, free_counts b r (Dead Died) l refl)

death_by : (b : BookState) (r : ℕ) → r < length b.ranks → (s : State) → state_at b.ranks r ≡ s
    → places_due (killed_at s r b) ≤ places_due b
death_by b r l Absent e = omega (arith, free_counts b r (Dead Died) l refl)
death_by b r l Idle e = omega (arith, free_counts b r (Dead Died) l refl)
death_by b r l (Racing racer) e =
    lost_places b r l (ranks_that is_racing (slice_set b.ranks r (Dead Died))) b.raced
death_by b r l (Active work) e = omega (arith, death_at_work b r work l e)
death_by b r l (Dead how) e = omega arith

death_places : (b : BookState) (r : ℕ) → r < length b.ranks → places_due (killed r b) ≤ places_due b
death_places b r l = death_by b r l (state_at b.ranks r) refl

-- whatever is received
pub hearing_takes_no_place : HearingTakesNoPlace
hearing_takes_no_place b r report answer l =
    under_answer (λ k. places_due k ≤ places_due b) (λ k h. h) b r report (omega arith)
    (death_places b r l) answer
    (λ e. let t = kept_takes_none b r report l in omega (arith, t.work, t.orders))
