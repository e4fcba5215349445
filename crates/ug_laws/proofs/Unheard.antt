-- A rank of which no report was received has not joined, as long as none is lost.
use Rattle.std.proofs.Common.{◌≡◌, ◌≢◌, inl, inr, ℕ, zero, suc, ℤ, Bool, true, false, List, [], ◌∷◌, Option, None, Some, refl, sym, ap, subst}
use Rattle.std.specs.Prelude.{Contains, if◌then◌else◌, slice_set}
use Rattle.std.proofs.lemmas.Bool.{cases_eq, false≢true}
use Rattle.ug_nodes.specs.declared.change.Change.{Change}
use Rattle.ug_nodes.specs.declared.node.Node.{Node}
use Rattle.ug_frames.specs.declared.report.Report.{Report}
use Rattle.ug_frames.specs.declared.report.Report.TheVariants.{Ready, Solution, Hand, State as Reported, Done, Ended as Over}
use Rattle.ug_pool.specs.declared.entry.Entry.{Entry}
use Rattle.ug_ranks.specs.Changes.{asked_for, won}
use Rattle.ug_ranks.specs.Looks.{is_idle, is_racing}
use Rattle.ug_ranks.specs.States.{state_at}
use Rattle.ug_ranks.specs.declared.state.State.{State}
use Rattle.ug_ranks.specs.declared.state.State.TheVariants.{Absent, Idle, Racing, Active, Dead}
use Rattle.ug_rules.specs.declared.demand.Wanted.{Wanted}
use Rattle.ug_rules.specs.declared.demand.Wanted.TheVariants.{Ask, Enough, Nothing}
use Rattle.ug_rules.specs.declared.heard.Heard.{Heard}
use Rattle.ug_rules.specs.declared.heard.Heard.TheVariants.{Kept, Stale, Early, Broken, NotBetter, InRace, Again, Gap, Outside, Unbacked, Short, Memory}
use Rattle.ug_rules.specs.State.{BookState, cutoff_of_best}
use Rattle.ug_rules.specs.Deciding.{IsDecided, IsRaceEnded, IsReadied, announced, announced_as, assigned, assigned_by, assigned_times, collected, dropped, given, handouts, is_race_due, race_begun, race_begun_with, raced_by, raced_by_all, ranks_won, same_cutoff, stopped_collecting}
use Rattle.ug_rules.specs.Hearing.{after_hearing, done_at, handed_at, is_deadly, kept}
use Rattle.ug_rules.specs.Ranks.{racers_freed, ranks_that}
use Rattle.ug_rules.proofs.FirstLemmas.{passes}
use Rattle.ug_serve.proofs.Told.{behind, in_front}

-- the rank has not joined yet, or is not one
abbrev pub IsAway : State → Type 0
IsAway Absent = Unit {0}
IsAway Idle = ⊥
IsAway (Racing racer) = ⊥
IsAway (Active work) = ⊥
IsAway (Dead how) = Unit {0}

abbrev pub IsAbsentAt : List State → ℕ → Type 0
IsAbsentAt states rank = IsAway (state_at states rank)

freed_away : (state : State) → IsAway state → IsAway (if is_racing state then Idle else state)
freed_away Absent away = tt
freed_away Idle away = absurd away
freed_away (Racing racer) away = absurd away
freed_away (Active work) away = absurd away
freed_away (Dead how) away = tt

won_away : (node : Node) (floor : ℤ) (state : State) → IsAway state → IsAway (won node floor state)
won_away node floor Absent away = tt
won_away node floor Idle away = absurd away
won_away node floor (Racing racer) away = absurd away
won_away node floor (Active work) away = absurd away
won_away node floor (Dead how) away = tt

asked_away : (count : ℕ) (state : State) → IsAway state → IsAway (asked_for count state)
asked_away count Absent away = tt
asked_away count Idle away = absurd away
asked_away count (Racing racer) away = absurd away
asked_away count (Active work) away = absurd away
asked_away count (Dead how) away = tt

idle_away : (state : State) → is_idle state ≡ true → IsAway state → ⊥
idle_away Absent idle away = false≢true idle
idle_away Idle idle away = away
idle_away (Racing racer) idle away = away
idle_away (Active work) idle away = away
idle_away (Dead how) idle away = false≢true idle

-- one that was so is
abbrev Stays : BookState → BookState → ℕ → Type 0
Stays old new rank = IsAbsentAt old.ranks rank → IsAbsentAt new.ranks rank

either : (b : Bool) (x y old : BookState) (rank : ℕ) → Stays old x rank → Stays old y rank
    → Stays old (if b then x else y) rank
either true x y old rank one two = one
either false x y old rank one two = two

-- ---- lists of states

set_absent : (states : List State) (at : ℕ) (state : State) (rank : ℕ)
    → (IsAbsentAt states at → IsAway state) → IsAbsentAt states rank
    → IsAbsentAt (slice_set states at state) rank
set_absent [] at state rank good absent = absent
set_absent (first ∷ states) zero state zero good absent = good absent
set_absent (first ∷ states) zero state (suc rank) good absent = absent
set_absent (first ∷ states) (suc at) state zero good absent = absent
set_absent (first ∷ states) (suc at) state (suc rank) good absent =
    set_absent states at state rank good absent

set_another : (states : List State) (at : ℕ) (state : State) (rank : ℕ) → at ≢ rank → IsAbsentAt states rank
    → IsAbsentAt (slice_set states at state) rank
set_another [] at state rank other absent = absent
set_another (first ∷ states) zero state zero other absent = absurd (other refl)
set_another (first ∷ states) zero state (suc rank) other absent = absent
set_another (first ∷ states) (suc at) state zero other absent = absent
set_another (first ∷ states) (suc at) state (suc rank) other absent =
    set_another states at state rank (λ same. other (ap suc same)) absent

freed_absent : (states : List State) (rank : ℕ) → IsAbsentAt states rank → IsAbsentAt (racers_freed states) rank
freed_absent [] rank absent = absent
freed_absent (state ∷ states) zero absent = freed_away state absent
freed_absent (state ∷ states) (suc rank) absent = freed_absent states rank absent

-- a rank that is listed as idle is not absent
idle_other : (states : List State) (r rank : ℕ) → Contains (ranks_that is_idle states) r → IsAbsentAt states rank
    → r ≢ rank
idle_other states r rank listed absent same =
    idle_away (state_at states r) (passes is_idle states r listed).1
    (subst (λ (k : ℕ). IsAbsentAt states k) (sym same) absent)

-- ---- it is decided

announced_stays : (cutoff : Option ℤ) (b : BookState) (rank : ℕ) → Stays b (announced_as cutoff b) rank
announced_stays None b rank absent = absent
announced_stays (Some cutoff) b rank absent =
    either (same_cutoff b.announced cutoff) b _ b rank (λ a. a) (λ a. a) absent

won_absent : (winner : ℕ) (raced : Option Entry) (states : List State) (rank : ℕ) → IsAbsentAt states rank
    → IsAbsentAt (ranks_won winner raced states) rank
won_absent winner None states rank absent = freed_absent states rank absent
won_absent winner (Some entry) states rank absent = elim (cases_eq winner rank) [
  | inl same ↦ set_absent (racers_freed states) winner (won entry.node entry.floor (state_at states winner)) rank
      (λ freed. won_away entry.node entry.floor (state_at states winner)
      (subst (λ (k : ℕ). IsAbsentAt states k) (sym same) absent)) (freed_absent states rank absent)
  | inr other ↦ set_another (racers_freed states) winner (won entry.node entry.floor (state_at states winner)) rank
      other (freed_absent states rank absent)
]

ended_stays : (old new : BookState) (rank : ℕ) → IsRaceEnded old new → Stays old new rank
ended_stays old new rank (inl won) absent =
    subst (λ (b : BookState). IsAbsentAt b.ranks rank) (sym won.1.done)
    (won_absent won.0 old.raced old.ranks rank absent)
ended_stays old new rank (inr none) absent =
    subst (λ (b : BookState). IsAbsentAt b.ranks rank) (sym none.same) absent

raced_stays : (ranks : List ℕ) (entry : Entry) (b : BookState) (rank : ℕ)
    → ((r : ℕ) → Contains ranks r → r ≢ rank) → Stays b (raced_by_all ranks entry b) rank
raced_stays [] entry b rank other absent = absent
raced_stays (r ∷ rs) entry b rank other absent =
    raced_stays rs entry (raced_by r entry b) rank (λ q there. other q (behind r rs q there))
    (set_another b.ranks r _ rank (other r (in_front r rs)) absent)

begun_stays : (pool : List Entry) (b : BookState) (rank : ℕ) → Stays b (race_begun_with pool b) rank
begun_stays [] b rank absent = absent
begun_stays (entry ∷ rest) b rank absent =
    raced_stays (ranks_that is_idle b.ranks) entry (record b { pool = rest; raced = Some entry }) rank
    (λ r listed. idle_other b.ranks r rank listed absent) absent

assigned_stays : (ranks : List ℕ) (pool : List Entry) (b : BookState) (rank : ℕ)
    → ((r : ℕ) → Contains ranks r → r ≢ rank) → Stays b (assigned_by ranks pool b) rank
assigned_stays [] pool b rank other absent = absent
assigned_stays (r ∷ rs) [] b rank other absent = absent
assigned_stays (r ∷ rs) (entry ∷ rest) b rank other absent =
    set_another b.ranks r _ rank (other r (in_front r rs)) absent

times_stay : (n : ℕ) (b : BookState) (rank : ℕ) → Stays b (assigned_times n b) rank
times_stay zero b rank absent = absent
times_stay (suc n) b rank absent =
    times_stay n (assigned b) rank
    (assigned_stays (ranks_that is_idle b.ranks) b.pool b rank
    (λ r listed. idle_other b.ranks r rank listed absent) absent)

given_stays : (n : ℕ) (b : BookState) (rank : ℕ) → Stays b (given n b) rank
given_stays zero b rank absent = absent
given_stays (suc n) b rank absent =
    either (is_race_due b) (race_begun b) (assigned_times (suc n) b) b rank (begun_stays b.pool b rank)
    (times_stay (suc n) b rank) absent

enough_stays : (ranks : List ℕ) (b : BookState) (rank : ℕ) → Stays b (stopped_collecting ranks b) rank
enough_stays [] b rank absent = absent
enough_stays (r ∷ rs) b rank absent =
    enough_stays rs _ rank
    (set_absent b.ranks r (asked_for 0 (state_at b.ranks r)) rank (asked_away 0 (state_at b.ranks r)) absent)

collected_stays : (wanted : Wanted) (b : BookState) (rank : ℕ) → Stays b (collected wanted b) rank
collected_stays (Ask r count) b rank absent =
    set_absent b.ranks r (asked_for count (state_at b.ranks r)) rank (asked_away count (state_at b.ranks r)) absent
collected_stays (Enough ranks) b rank absent = enough_stays ranks b rank absent
collected_stays Nothing b rank absent = absent

readied_stays : (old new : BookState) (rank : ℕ) → IsReadied old new → Stays old new rank
readied_stays old new rank readied absent =
    ended_stays (announced (dropped old)) new rank readied
    (announced_stays (cutoff_of_best (dropped old)) (dropped old) rank absent)

pub decided_stays : (old new : BookState) (rank : ℕ) → IsDecided old new → IsAbsentAt old.ranks rank
    → IsAbsentAt new.ranks rank
decided_stays old new rank is absent =
    subst (λ (b : BookState). IsAbsentAt b.ranks rank) (sym is.collected_.done)
    (collected_stays is.collected_.demand (given (handouts is.ready) is.ready) rank
    (given_stays (handouts is.ready) is.ready rank (readied_stays old is.ready rank is.readied absent)))

-- ---- a report of another rank is received

handed_stays : (state : State) (r : ℕ) (changes : List Change) (b : BookState) (rank : ℕ) → r ≢ rank
    → Stays b (handed_at state r changes b) rank
handed_stays Absent r changes b rank other absent = absent
handed_stays Idle r changes b rank other absent = absent
handed_stays (Racing racer) r changes b rank other absent = absent
handed_stays (Active work) r changes b rank other absent = set_another b.ranks r _ rank other absent
handed_stays (Dead how) r changes b rank other absent = absent

done_stays : (state : State) (r : ℕ) (b : BookState) (rank : ℕ) → r ≢ rank → Stays b (done_at state r b) rank
done_stays Absent r b rank other absent = absent
done_stays Idle r b rank other absent = absent
done_stays (Racing racer) r b rank other absent = freed_absent b.ranks rank absent
done_stays (Active work) r b rank other absent = set_another b.ranks r Idle rank other absent
done_stays (Dead how) r b rank other absent = absent

kept_stays : (r : ℕ) (report : Report) (b : BookState) (rank : ℕ) → r ≢ rank → Stays b (kept r report b) rank
kept_stays r Ready b rank other absent = set_another b.ranks r _ rank other absent
kept_stays r (Solution ticket x) b rank other absent = absent
kept_stays r (Hand ticket number changes) b rank other absent =
    handed_stays (state_at b.ranks r) r changes b rank other absent
kept_stays r (Reported ticket count floor) b rank other absent = set_another b.ranks r _ rank other absent
kept_stays r (Done ticket told count ending) b rank other absent =
    done_stays (state_at b.ranks r) r b rank other absent
kept_stays r Over b rank other absent = absent

pub heard_stays : (answer : Heard) (r : ℕ) (report : Report) (b : BookState) (rank : ℕ) → r ≢ rank
    → is_deadly answer ≡ false → IsAbsentAt b.ranks rank → IsAbsentAt (after_hearing answer r report b).ranks rank
heard_stays Kept r report b rank other harmless absent = kept_stays r report b rank other absent
heard_stays Stale r report b rank other harmless absent = absent
heard_stays (NotBetter was given) r report b rank other harmless absent = absent
heard_stays Again r report b rank other harmless absent = absent
heard_stays Memory r report b rank other harmless absent = absent
heard_stays Early r report b rank other harmless absent = absurd (false≢true (sym harmless))
heard_stays (Broken first) r report b rank other harmless absent = absurd (false≢true (sym harmless))
heard_stays InRace r report b rank other harmless absent = absurd (false≢true (sym harmless))
heard_stays (Gap want got) r report b rank other harmless absent = absurd (false≢true (sym harmless))
heard_stays (Outside column) r report b rank other harmless absent = absurd (false≢true (sym harmless))
heard_stays (Unbacked cutoff incumbent) r report b rank other harmless absent =
    absurd (false≢true (sym harmless))
heard_stays (Short said was) r report b rank other harmless absent = absurd (false≢true (sym harmless))
