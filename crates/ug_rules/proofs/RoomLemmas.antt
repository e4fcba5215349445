-- How many nodes are out of the pool after each event.
use Rattle.std.proofs.Common.{◌≡◌, ℕ, ◌+◌, ◌<◌, ◌≤◌, List, [], ◌∷◌, length, refl, ap, sym, subst, arith, length-append}
use Rattle.std.specs.Prelude.{Option, Some, None, slice_set}
use Rattle.std.proofs.lemmas.List.{length-map}
use Rattle.ug_rows.specs.declared.area.Interval.{Interval}
use Rattle.ug_nodes.specs.declared.change.Change.{Change}
use Rattle.ug_nodes.specs.declared.node.Node.{Node}
use Rattle.ug_nodes.specs.Changes.{area_by}
use Rattle.ug_problem.specs.Instances.{root_of}
use Rattle.ug_pool.specs.declared.entry.Entry.{Entry}
use Rattle.ug_frames.specs.declared.report.Report.{Report}
use Rattle.ug_frames.specs.declared.report.Report.TheVariants.{Ready, Solution, Hand, State as Reported, Done, Ended}
use Rattle.ug_ranks.specs.declared.state.Work.{Work}
use Rattle.ug_ranks.specs.declared.state.Off.TheVariants.{Died}
use Rattle.ug_ranks.specs.declared.state.State.{State}
use Rattle.ug_ranks.specs.declared.state.State.TheVariants.{Absent, Idle, Racing, Active, Dead}
use Rattle.ug_ranks.specs.States.{state_at}
use Rattle.ug_ranks.specs.Changes.{grown, joined, noted}
use Rattle.ug_rules.specs.State.{BookState, node_at, nodes_in, nodes_of, raced_node}
use Rattle.ug_rules.specs.Ranks.{ranks_that}
use Rattle.ug_ranks.specs.Looks.{is_racing}
use Rattle.ug_rules.specs.Deaths.{killed_at, lost_by, with_dead, works_below}
use Rattle.ug_rules.specs.Hearing.{done_at, handed_at, kept}
use Rattle.ug_rules.specs.Room.{CallingOffTakesNone, DeathMakesRoom, DeathTakesNone, DoneMakesRoom, FreeingTakesNone, HandLeavesAsMany, HearingTakesNone, HeldAreInOrOut, LostRaceMakesRoom, WritingCounts, nodes_out}
use Rattle.ug_rules.proofs.WorkLemmas.{same_nodes}
use Rattle.ug_rules.proofs.AnswerLemmas.{under_answer}
use Rattle.ug_rules.proofs.CountLemmas.{of_held, of_idled, of_set}
use Rattle.ug_rules.proofs.BookLemmas.{joined_alike, noted_alike, written}

-- the number of nodes adds up
pub writing_counts : WritingCounts
writing_counts ss r s l = of_set length length-append ss r s l

pub calling_off_takes_none : CallingOffTakesNone
calling_off_takes_none line ss = of_idled length length-append (works_below line) ss

pub freeing_takes_none : FreeingTakesNone
freeing_takes_none ss = of_idled length length-append is_racing ss

pub held_in_or_out : HeldAreInOrOut
held_in_or_out b =
    let size : length (nodes_in b.pool) ≡ length b.pool =
    length-map b.pool (λ (entry : Entry). entry.node) in
    omega (arith, of_held length length-append b, size)

-- a free state written leaves what the old one worked on
pub free_counts : (b : BookState) (r : ℕ) (s : State) → r < length b.ranks → node_at s ≡ []
    → length (nodes_of (slice_set b.ranks r s)) + length (node_at (state_at b.ranks r))
    ≡ length (nodes_of b.ranks)
free_counts b r s l free =
    let none : length (node_at s) ≡ 0 = ap length free in
    omega (arith, writing_counts b.ranks r s l, none)

-- the death of a rank that works
death_at_work : (b : BookState) (r : ℕ) (work : Work) → r < length b.ranks
    → state_at b.ranks r ≡ Active work → nodes_out (killed_at (Active work) r b) + 1 ≤ nodes_out b
death_at_work b r work l is =
    let off = calling_off_takes_none work.node.line (slice_set b.ranks r (Dead Died)) in
    let own : length (node_at (state_at b.ranks r)) ≡ 1 =
    ap (λ (s : State). length (node_at s)) is in
    omega (arith, off, free_counts b r (Dead Died) l refl, own)

pub death_makes_room : DeathMakesRoom
death_makes_room b r work l is =
    subst (λ s. nodes_out (killed_at s r b) + 1 ≤ nodes_out b) (sym is)
    (death_at_work b r work l is)

-- that of a racer
lost_out : (b : BookState) (r : ℕ) → r < length b.ranks → (entry : Entry) → b.raced ≡ Some entry
    → nodes_out (lost_by [] (Some entry) (with_dead r b)) + 1 ≤ nodes_out b
lost_out b r l entry e =
    let one : length (raced_node b.raced) ≡ 1 =
    ap (λ (o : Option Entry). length (raced_node o)) e in
    omega (arith, writing_counts b.ranks r (Dead Died) l, one)

pub lost_race_makes_room : LostRaceMakesRoom
lost_race_makes_room b r racer entry l is e none =
    subst (λ s. nodes_out (killed_at s r b) + 1 ≤ nodes_out b) (sym is)
    (subst (λ (rs : List ℕ). nodes_out (lost_by rs b.raced (with_dead r b)) + 1 ≤ nodes_out b)
    (sym none)
    (subst (λ (o : Option Entry). nodes_out (lost_by [] o (with_dead r b)) + 1 ≤ nodes_out b)
    (sym e) (lost_out b r l entry e)))

lost_takes_none : (b : BookState) (r : ℕ) → r < length b.ranks → (rs : List ℕ)
    (raced : Option Entry) → b.raced ≡ raced
    → nodes_out (lost_by rs raced (with_dead r b)) ≤ nodes_out b
lost_takes_none b r l (q ∷ rs) raced e = omega (arith, free_counts b r (Dead Died) l refl)
lost_takes_none b r l [] None e = omega (arith, free_counts b r (Dead Died) l refl)
lost_takes_none b r l [] (Some entry) e = omega (arith, lost_out b r l entry e)

death_by : (b : BookState) (r : ℕ) → r < length b.ranks → (s : State) → state_at b.ranks r ≡ s
    → nodes_out (killed_at s r b) ≤ nodes_out b
death_by b r l Absent e = omega (arith, free_counts b r (Dead Died) l refl)
death_by b r l Idle e = omega (arith, free_counts b r (Dead Died) l refl)
death_by b r l (Racing racer) e =
    lost_takes_none b r l (ranks_that is_racing (slice_set b.ranks r (Dead Died))) b.raced refl
death_by b r l (Active work) e = omega (arith, death_at_work b r work l e)
death_by b r l (Dead how) e = omega arith

pub death_takes_none : DeathTakesNone
death_takes_none b r l = death_by b r l (state_at b.ranks r) refl

-- a Done
pub done_makes_room : DoneMakesRoom
done_makes_room b r work ticket told count ending l is =
    let own : length (node_at (state_at b.ranks r)) ≡ 1 =
    ap (λ (s : State). length (node_at s)) is in
    subst (λ s. nodes_out (done_at s r b) + 1 ≡ nodes_out b) (sym is)
    (omega (arith, free_counts b r Idle l refl, own))

-- no more nodes are out, nor orders queued
pub record TakesNone (old new : BookState) : Type 0 where
  pub work : length (nodes_of new.ranks) ≤ length (nodes_of old.ranks)
  pub raced : length (raced_node new.raced) ≤ length (raced_node old.raced)
  pub orders : length new.orders ≤ length old.orders

same_takes_none : (b : BookState) → TakesNone b b
same_takes_none b =
    record { work = omega arith; raced = omega arith; orders = omega arith }

-- a state written that works on the same node, or on none
alike_takes_none : (b : BookState) (r : ℕ) (s : State) → node_at s ≡ node_at (state_at b.ranks r)
    → TakesNone b (written r s b)
alike_takes_none b r s e =
    let same : length (nodes_of (slice_set b.ranks r s)) ≡ length (nodes_of b.ranks) =
    ap length (same_nodes b.ranks r s e) in
    record { work = omega (arith, same); raced = omega arith; orders = omega arith }

done_by : (b : BookState) (r : ℕ) → r < length b.ranks → (s : State) → TakesNone b (done_at s r b)
done_by b r l Absent = same_takes_none b
done_by b r l Idle = same_takes_none b
done_by b r l (Racing racer) = record {
  work = freeing_takes_none b.ranks;
  raced = omega arith;
  orders = omega arith;
}
done_by b r l (Active work) = record {
  work = omega (arith, writing_counts b.ranks r Idle l);
  raced = omega arith;
  orders = omega arith;
}
done_by b r l (Dead how) = same_takes_none b

-- a hand
grown_nodes : (area : List Interval) (s : State) → node_at (grown area s) ≡ node_at s
grown_nodes area Absent = refl
grown_nodes area Idle = refl
grown_nodes area (Racing racer) = refl
grown_nodes area (Active work) = refl
grown_nodes area (Dead how) = refl

hand_nodes : (b : BookState) (r : ℕ) (changes : List Change)
    → nodes_of (slice_set b.ranks r
    (grown (area_by (root_of b.problem) changes) (state_at b.ranks r)))
    ≡ nodes_of b.ranks
hand_nodes b r changes =
    let area = area_by (root_of b.problem) changes in
    let old = state_at b.ranks r in
    same_nodes b.ranks r (grown area old) (grown_nodes area old)

hand_out : (b : BookState) (r : ℕ) (changes : List Change) (s : State)
    → nodes_out (handed_at s r changes b) ≡ nodes_out b
hand_out b r changes Absent = refl
hand_out b r changes Idle = refl
hand_out b r changes (Racing racer) = refl
hand_out b r changes (Active work) =
    ap (λ (ns : List Node). length ns + length (raced_node b.raced)) (hand_nodes b r changes)
hand_out b r changes (Dead how) = refl

pub hand_leaves_as_many : HandLeavesAsMany
hand_leaves_as_many b r ticket number changes = hand_out b r changes (state_at b.ranks r)

hand_by : (b : BookState) (r : ℕ) (changes : List Change) (s : State)
    → TakesNone b (handed_at s r changes b)
hand_by b r changes Absent = same_takes_none b
hand_by b r changes Idle = same_takes_none b
hand_by b r changes (Racing racer) = same_takes_none b
hand_by b r changes (Active work) =
    let same = ap length (hand_nodes b r changes) in
    record { work = omega (arith, same); raced = omega arith; orders = omega arith }
hand_by b r changes (Dead how) = same_takes_none b

-- the places that are kept
pub kept_takes_none : (b : BookState) (r : ℕ) (report : Report) → r < length b.ranks
    → TakesNone b (kept r report b)
kept_takes_none b r Ready l =
    let s = state_at b.ranks r in alike_takes_none b r (joined s) (joined_alike s).nodes
kept_takes_none b r (Solution ticket x) l =
    record { work = omega arith; raced = omega arith; orders = omega arith }
kept_takes_none b r (Hand ticket number changes) l = hand_by b r changes (state_at b.ranks r)
kept_takes_none b r (Reported ticket count floor) l =
    let s = state_at b.ranks r in
    alike_takes_none b r (noted count floor s) (noted_alike count floor s).nodes
kept_takes_none b r (Done ticket told count ending) l = done_by b r l (state_at b.ranks r)
kept_takes_none b r Ended l = same_takes_none b

-- whatever is received
pub hearing_takes_none : HearingTakesNone
hearing_takes_none b r report answer l =
    under_answer (λ k. nodes_out k ≤ nodes_out b) (λ k h. h) b r report (omega arith)
    (death_takes_none b r l) answer
    (λ e. let t = kept_takes_none b r report l in omega (arith, t.work, t.raced))
