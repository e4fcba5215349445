-- A rank that is dead was taken for gone in one of the actions.
use Rattle.std.proofs.Common.{◌≡◌, ◌≢◌, ◌⊎◌, inl, inr, ℕ, zero, suc, ℤ, ◌<◌, Bool, true, false, List, [], ◌∷◌, map, Option, None, Some, refl, sym, ap, subst, ◌∙◌, arith}
use Rattle.std.proofs.lemmas.Bool.{cases_Bool, false≢true}
use Rattle.std.proofs.lemmas.List.{get_or-replicate, length-replicate}
use Rattle.std.proofs.lemmas.List.Elements.{Contains-append_left, Contains-append_right, Contains-push}
use Rattle.std.specs.Prelude.{if◌then◌else◌, slice_set}
use Rattle.ug_nodes.specs.declared.change.Change.{Change}
use Rattle.ug_nodes.specs.declared.node.Node.{Node}
use Rattle.ug_rows.specs.declared.area.Interval.{Interval}
use Rattle.ug_frames.specs.declared.report.Report.{Report}
use Rattle.ug_frames.specs.declared.report.Report.TheVariants.{Ready, Solution, Hand, State as Reported, Done, Ended as Over}
use Rattle.ug_pool.specs.declared.entry.Entry.{Entry}
use Rattle.ug_ranks.specs.Changes.{asked_for, grown, joined, noted, won}
use Rattle.ug_ranks.specs.Looks.{is_alive, is_idle, is_racing}
use Rattle.ug_ranks.specs.States.{state_at}
use Rattle.ug_ranks.specs.declared.state.State.{State}
use Rattle.ug_ranks.specs.declared.state.State.TheVariants.{Absent, Idle, Racing, Active, Dead}
use Rattle.ug_ranks.specs.declared.state.Off.TheVariants.{Died}
use Rattle.ug_rules.specs.declared.demand.Wanted.{Wanted}
use Rattle.ug_rules.specs.declared.demand.Wanted.TheVariants.{Ask, Enough, Nothing}
use Rattle.ug_rules.specs.declared.heard.Heard.{Heard}
use Rattle.ug_rules.specs.declared.heard.Heard.TheVariants.{Kept, Stale, Early, Broken, NotBetter, InRace, Again, Gap, Outside, Unbacked, Short, Memory}
use Rattle.ug_rules.specs.State.{BookState, cutoff_of_best}
use Rattle.ug_rules.specs.Deaths.{killed, killed_at, lost_by, with_dead, works_below}
use Rattle.ug_rules.specs.Deciding.{IsDecided, IsRaceEnded, IsReadied, Stands, announced, announced_as, assigned, assigned_by, assigned_times, collected, dropped, given, handouts, is_race_due, race_begun, race_begun_with, raced_by, raced_by_all, ranks_won, same_cutoff, stopped_collecting}
use Rattle.ug_rules.specs.Hearing.{after_hearing, counted_under, done_at, handed_at, is_deadly, kept, killed_under, taken_up}
use Rattle.ug_rules.specs.Ranks.{racers_freed, ranks_that}
use Rattle.ug_book.specs.declared.opening.Opening.{Opening}
use Rattle.ug_book.specs.Openings.{opening_book}
use Rattle.ug_coord.specs.Causes.{HasCause, IsEndOf}
use Rattle.ug_coord.specs.Actions.{Broke, Came, Closed, Decided, Action, NextState, Halted, IsTrace, Kept as Saved, Launched, Lost, Passed, Sent, SetUp, CoordinatorState, Took, Unclosed, Unfed, Unread, Unsent, Unwritten}
use Rattle.ug_coord.specs.Ends.{ranks_of}

-- the rank is alive
abbrev pub Alive : List State → ℕ → Type 0
Alive states rank = is_alive (state_at states rank) ≡ true

-- one that was alive is
abbrev Lives : BookState → BookState → ℕ → Type 0
Lives old new rank = Alive old.ranks rank → Alive new.ranks rank

either : (b : Bool) (x y old : BookState) (rank : ℕ) → Lives old x rank → Lives old y rank
    → Lives old (if b then x else y) rank
either true x y old rank one two = one
either false x y old rank one two = two

-- ---- lists of states

set_alive : (states : List State) (at : ℕ) (state : State) (rank : ℕ)
    → (Alive states at → is_alive state ≡ true) → Alive states rank → Alive (slice_set states at state) rank
set_alive [] at state rank good alive = alive
set_alive (first ∷ states) zero state zero good alive = good alive
set_alive (first ∷ states) zero state (suc rank) good alive = alive
set_alive (first ∷ states) (suc at) state zero good alive = alive
set_alive (first ∷ states) (suc at) state (suc rank) good alive = set_alive states at state rank good alive

set_other : (states : List State) (at : ℕ) (state : State) (rank : ℕ) → at ≢ rank → Alive states rank
    → Alive (slice_set states at state) rank
set_other [] at state rank other alive = alive
set_other (first ∷ states) zero state zero other alive = absurd (other refl)
set_other (first ∷ states) zero state (suc rank) other alive = alive
set_other (first ∷ states) (suc at) state zero other alive = alive
set_other (first ∷ states) (suc at) state (suc rank) other alive =
    set_other states at state rank (λ same. other (ap suc same)) alive

map_alive : (f : State → State) → ((state : State) → is_alive state ≡ true → is_alive (f state) ≡ true)
    → (states : List State) (rank : ℕ) → Alive states rank → Alive (map f states) rank
map_alive f keeps [] rank alive = alive
map_alive f keeps (state ∷ states) zero alive = keeps state alive
map_alive f keeps (state ∷ states) (suc rank) alive = map_alive f keeps states rank alive

map_back : (f : State → State) → ((state : State) → is_alive (f state) ≡ true → is_alive state ≡ true)
    → (states : List State) (rank : ℕ) → Alive (map f states) rank → Alive states rank
map_back f keeps [] rank alive = alive
map_back f keeps (state ∷ states) zero alive = keeps state alive
map_back f keeps (state ∷ states) (suc rank) alive = map_back f keeps states rank alive

-- ---- states

freed_alive : (state : State) → is_alive state ≡ true → is_alive (if is_racing state then Idle else state) ≡ true
freed_alive Absent alive = alive
freed_alive Idle alive = alive
freed_alive (Racing racer) alive = refl
freed_alive (Active work) alive = alive
freed_alive (Dead how) alive = alive

freed_back : (state : State) → is_alive (if is_racing state then Idle else state) ≡ true → is_alive state ≡ true
freed_back Absent alive = alive
freed_back Idle alive = alive
freed_back (Racing racer) alive = refl
freed_back (Active work) alive = alive
freed_back (Dead how) alive = alive

all_freed : (states : List State) (rank : ℕ) → Alive states rank → Alive (racers_freed states) rank
all_freed states rank alive =
    map_alive (λ (state : State). if is_racing state then Idle else state) freed_alive states rank alive

won_alive : (node : Node) (floor : ℤ) (state : State) → is_alive state ≡ true → is_alive (won node floor state) ≡ true
won_alive node floor Absent alive = alive
won_alive node floor Idle alive = alive
won_alive node floor (Racing racer) alive = refl
won_alive node floor (Active work) alive = alive
won_alive node floor (Dead how) alive = alive

asked_alive : (count : ℕ) (state : State) → is_alive state ≡ true → is_alive (asked_for count state) ≡ true
asked_alive count Absent alive = alive
asked_alive count Idle alive = alive
asked_alive count (Racing racer) alive = alive
asked_alive count (Active work) alive = refl
asked_alive count (Dead how) alive = alive

noted_alive : (count : ℕ) (floor : ℤ) (state : State) → is_alive state ≡ true
    → is_alive (noted count floor state) ≡ true
noted_alive count floor Absent alive = alive
noted_alive count floor Idle alive = alive
noted_alive count floor (Racing racer) alive = refl
noted_alive count floor (Active work) alive = refl
noted_alive count floor (Dead how) alive = alive

grown_alive : (area : List Interval) (state : State) → is_alive state ≡ true → is_alive (grown area state) ≡ true
grown_alive area Absent alive = alive
grown_alive area Idle alive = alive
grown_alive area (Racing racer) alive = alive
grown_alive area (Active work) alive = refl
grown_alive area (Dead how) alive = alive

joined_alive : (state : State) → is_alive (joined state) ≡ true
joined_alive Absent = refl
joined_alive Idle = refl
joined_alive (Racing racer) = refl
joined_alive (Active work) = refl
joined_alive (Dead how) = refl

off_by : (b : Bool) (state : State) → is_alive state ≡ true → is_alive (if b then Idle else state) ≡ true
off_by true state alive = refl
off_by false state alive = alive

-- ---- it is decided

announced_lives : (cutoff : Option ℤ) (b : BookState) (rank : ℕ) → Lives b (announced_as cutoff b) rank
announced_lives None b rank alive = alive
announced_lives (Some cutoff) b rank alive =
    either (same_cutoff b.announced cutoff) b _ b rank (λ a. a) (λ a. a) alive

won_lives : (winner : ℕ) (raced : Option Entry) (states : List State) (rank : ℕ) → Alive states rank
    → Alive (ranks_won winner raced states) rank
won_lives winner None states rank alive = all_freed states rank alive
won_lives winner (Some entry) states rank alive =
    set_alive (racers_freed states) winner (won entry.node entry.floor (state_at states winner)) rank
    (λ freed. won_alive entry.node entry.floor (state_at states winner)
    (map_back (λ (state : State). if is_racing state then Idle else state) freed_back states winner freed))
    (all_freed states rank alive)

ended_lives : (old new : BookState) (rank : ℕ) → IsRaceEnded old new → Lives old new rank
ended_lives old new rank ended alive = elim ended [
  | inl won ↦ subst (λ (b : BookState). Alive b.ranks rank) (sym won.1.done)
      (won_lives won.0 old.raced old.ranks rank alive)
  | inr none ↦ subst (λ (b : BookState). Alive b.ranks rank) (sym none.same) alive
]

raced_lives : (ranks : List ℕ) (entry : Entry) (b : BookState) (rank : ℕ) → Lives b (raced_by_all ranks entry b) rank
raced_lives [] entry b rank alive = alive
raced_lives (r ∷ rs) entry b rank alive =
    raced_lives rs entry (raced_by r entry b) rank (set_alive b.ranks r _ rank (λ was. refl) alive)

begun_lives : (pool : List Entry) (b : BookState) (rank : ℕ) → Lives b (race_begun_with pool b) rank
begun_lives [] b rank alive = alive
begun_lives (entry ∷ rest) b rank alive =
    raced_lives (ranks_that is_idle b.ranks) entry (record b { pool = rest; raced = Some entry }) rank alive

assigned_lives : (ranks : List ℕ) (pool : List Entry) (b : BookState) (rank : ℕ)
    → Lives b (assigned_by ranks pool b) rank
assigned_lives [] pool b rank alive = alive
assigned_lives (r ∷ rs) [] b rank alive = alive
assigned_lives (r ∷ rs) (entry ∷ rest) b rank alive = set_alive b.ranks r _ rank (λ was. refl) alive

times_live : (n : ℕ) (b : BookState) (rank : ℕ) → Lives b (assigned_times n b) rank
times_live zero b rank alive = alive
times_live (suc n) b rank alive =
    times_live n (assigned b) rank (assigned_lives (ranks_that is_idle b.ranks) b.pool b rank alive)

given_lives : (n : ℕ) (b : BookState) (rank : ℕ) → Lives b (given n b) rank
given_lives zero b rank alive = alive
given_lives (suc n) b rank alive =
    either (is_race_due b) (race_begun b) (assigned_times (suc n) b) b rank (begun_lives b.pool b rank)
    (times_live (suc n) b rank) alive

enough_lives : (ranks : List ℕ) (b : BookState) (rank : ℕ) → Lives b (stopped_collecting ranks b) rank
enough_lives [] b rank alive = alive
enough_lives (r ∷ rs) b rank alive =
    enough_lives rs _ rank
    (set_alive b.ranks r (asked_for 0 (state_at b.ranks r)) rank (asked_alive 0 (state_at b.ranks r)) alive)

collected_lives : (wanted : Wanted) (b : BookState) (rank : ℕ) → Lives b (collected wanted b) rank
collected_lives (Ask r count) b rank alive =
    set_alive b.ranks r (asked_for count (state_at b.ranks r)) rank (asked_alive count (state_at b.ranks r)) alive
collected_lives (Enough ranks) b rank alive = enough_lives ranks b rank alive
collected_lives Nothing b rank alive = alive

readied_lives : (old new : BookState) (rank : ℕ) → IsReadied old new → Lives old new rank
readied_lives old new rank readied alive =
    ended_lives (announced (dropped old)) new rank readied
    (announced_lives (cutoff_of_best (dropped old)) (dropped old) rank alive)

decided_lives : (old new : BookState) (rank : ℕ) → IsDecided old new → Lives old new rank
decided_lives old new rank is alive =
    subst (λ (b : BookState). Alive b.ranks rank) (sym is.collected_.done)
    (collected_lives is.collected_.demand (given (handouts is.ready) is.ready) rank
    (given_lives (handouts is.ready) is.ready rank (readied_lives old is.ready rank is.readied alive)))

stands_lives : (steps : ℕ) (old new : BookState) (rank : ℕ) → Stands steps old new → Lives old new rank
stands_lives zero old new rank stands alive = subst (λ (b : BookState). Alive b.ranks rank) (sym stands) alive
stands_lives (suc zero) old new rank stands alive =
    subst (λ (b : BookState). Alive b.ranks rank) (sym stands) alive
stands_lives (suc (suc zero)) old new rank stands alive =
    subst (λ (b : BookState). Alive b.ranks rank) (sym stands)
    (announced_lives (cutoff_of_best (dropped old)) (dropped old) rank alive)
stands_lives (suc (suc (suc steps))) old new rank stands alive =
    subst (λ (b : BookState). Alive b.ranks rank) (sym stands.given_)
    (given_lives steps stands.ready rank (readied_lives old stands.ready rank stands.readied alive))

-- ---- another rank is lost

lost_lives : (ranks : List ℕ) (raced : Option Entry) (b : BookState) (rank : ℕ) → Lives b (lost_by ranks raced b) rank
lost_lives (r ∷ rs) raced b rank alive = alive
lost_lives [] None b rank alive = alive
lost_lives [] (Some entry) b rank alive = alive

killed_at_lives : (state : State) (r : ℕ) (b : BookState) (rank : ℕ) → r ≢ rank
    → Lives b (killed_at state r b) rank
killed_at_lives Absent r b rank other alive = set_other b.ranks r _ rank other alive
killed_at_lives Idle r b rank other alive = set_other b.ranks r _ rank other alive
killed_at_lives (Racing racer) r b rank other alive =
    let dead : BookState = with_dead r b in
    lost_lives (ranks_that is_racing dead.ranks) dead.raced dead rank (set_other b.ranks r _ rank other alive)
killed_at_lives (Active work) r b rank other alive =
    map_alive (λ (state : State). if works_below work.node.line state then Idle else state)
    (λ state alive. off_by (works_below work.node.line state) state alive) (with_dead r b).ranks rank
    (set_other b.ranks r _ rank other alive)
killed_at_lives (Dead how) r b rank other alive = alive

killed_lives : (r : ℕ) (b : BookState) (rank : ℕ) → r ≢ rank → Lives b (killed r b) rank
killed_lives r b rank other = killed_at_lives (state_at b.ranks r) r b rank other

-- ---- a report is received

handed_lives : (state : State) (r : ℕ) (changes : List Change) (b : BookState) (rank : ℕ)
    → Lives b (handed_at state r changes b) rank
handed_lives Absent r changes b rank alive = alive
handed_lives Idle r changes b rank alive = alive
handed_lives (Racing racer) r changes b rank alive = alive
handed_lives (Active work) r changes b rank alive =
    set_alive b.ranks r _ rank (grown_alive _ (state_at b.ranks r)) alive
handed_lives (Dead how) r changes b rank alive = alive

done_lives : (state : State) (r : ℕ) (b : BookState) (rank : ℕ) → Lives b (done_at state r b) rank
done_lives Absent r b rank alive = alive
done_lives Idle r b rank alive = alive
done_lives (Racing racer) r b rank alive = all_freed b.ranks rank alive
done_lives (Active work) r b rank alive = set_alive b.ranks r Idle rank (λ was. refl) alive
done_lives (Dead how) r b rank alive = alive

kept_lives : (r : ℕ) (report : Report) (b : BookState) (rank : ℕ) → Lives b (kept r report b) rank
kept_lives r Ready b rank alive =
    set_alive b.ranks r (joined (state_at b.ranks r)) rank (λ was. joined_alive (state_at b.ranks r)) alive
kept_lives r (Solution ticket x) b rank alive = alive
kept_lives r (Hand ticket number changes) b rank alive =
    handed_lives (state_at b.ranks r) r changes b rank alive
kept_lives r (Reported ticket count floor) b rank alive =
    set_alive b.ranks r (noted count floor (state_at b.ranks r)) rank
    (noted_alive count floor (state_at b.ranks r)) alive
kept_lives r (Done ticket told count ending) b rank alive = done_lives (state_at b.ranks r) r b rank alive
kept_lives r Over b rank alive = alive

taken_lives : (answer : Heard) (r : ℕ) (report : Report) (b : BookState) (rank : ℕ)
    → Lives b (taken_up answer r report b) rank
taken_lives Kept r report b rank alive = kept_lives r report b rank alive
taken_lives Stale r report b rank alive = alive
taken_lives Early r report b rank alive = alive
taken_lives (Broken first) r report b rank alive = alive
taken_lives (NotBetter was given) r report b rank alive = alive
taken_lives InRace r report b rank alive = alive
taken_lives Again r report b rank alive = alive
taken_lives (Gap want got) r report b rank alive = alive
taken_lives (Outside column) r report b rank alive = alive
taken_lives (Unbacked cutoff incumbent) r report b rank alive = alive
taken_lives (Short said was) r report b rank alive = alive
taken_lives Memory r report b rank alive = alive

counted_lives : (answer : Heard) (b : BookState) (rank : ℕ) → Lives b (counted_under answer b) rank
counted_lives Kept b rank alive = alive
counted_lives Stale b rank alive = alive
counted_lives Early b rank alive = alive
counted_lives (Broken first) b rank alive = alive
counted_lives (NotBetter was given) b rank alive = alive
counted_lives InRace b rank alive = alive
counted_lives Again b rank alive = alive
counted_lives (Gap want got) b rank alive = alive
counted_lives (Outside column) b rank alive = alive
counted_lives (Unbacked cutoff incumbent) b rank alive = alive
counted_lives (Short said was) b rank alive = alive
counted_lives Memory b rank alive = alive

-- under an answer that loses no rank
kept_alive : (deadly : Bool) (r : ℕ) (b : BookState) (rank : ℕ) → deadly ≡ false
    → Lives b (if deadly then killed r b else b) rank
kept_alive false r b rank is alive = alive
kept_alive true r b rank is alive = absurd (false≢true (sym is))

-- under one that is the death of another
others_alive : (deadly : Bool) (r : ℕ) (b : BookState) (rank : ℕ) → r ≢ rank
    → Lives b (if deadly then killed r b else b) rank
others_alive false r b rank other alive = alive
others_alive true r b rank other alive = killed_lives r b rank other alive

heard_lives : (answer : Heard) (r : ℕ) (report : Report) (b : BookState) (rank : ℕ)
    → (is_deadly answer ≡ false) ⊎ (r ≢ rank) → Lives b (after_hearing answer r report b) rank
heard_lives answer r report b rank mild alive =
    let taken : BookState = taken_up answer r report b in
    let now = taken_lives answer r report b rank alive in
    counted_lives answer (killed_under answer r taken) rank (elim mild [
      | inl none ↦ kept_alive (is_deadly answer) r taken rank none now
      | inr other ↦ others_alive (is_deadly answer) r taken rank other now
    ])

-- ---- each action

same_or_not : (a b : ℕ) → (a ≡ b) ⊎ (a ≢ b)
same_or_not zero zero = inl refl
same_or_not zero (suc b) = inr (λ same. absurd cc)
same_or_not (suc a) zero = inr (λ same. absurd cc)
same_or_not (suc a) (suc b) = elim (same_or_not a b) [
  | inl same ↦ inl (ap suc same)
  | inr other ↦ inr (λ same. other (omega (arith, same)))
]

-- the rank is alive still, or the action is its end
abbrev LivesOrEnds : CoordinatorState → Action → CoordinatorState → ℕ → Type 0
LivesOrEnds old action new rank = Alive new.book.ranks rank ⊎ IsEndOf rank action

still : (old new : CoordinatorState) (rank : ℕ) → new.book ≡ old.book → Alive old.book.ranks rank → Alive new.book.ranks rank
still old new rank same alive = subst (λ (b : BookState). Alive b.ranks rank) (sym same) alive

left : (old new : BookState) (rank : ℕ) → new.ranks ≡ old.ranks → Lives old new rank
left old new rank same alive = subst (λ (states : List State). Alive states rank) (sym same) alive

pub action_lives : (old : CoordinatorState) (action : Action) (new : CoordinatorState) (rank : ℕ) → NextState old action new
    → Alive old.book.ranks rank → LivesOrEnds old action new rank
action_lives old (Launched other) new rank does alive =
    inl (still old new rank (ap (λ (s : CoordinatorState). s.book) does.1) alive)
action_lives old (SetUp other bytes) new rank does alive =
    inl (still old new rank (ap (λ (s : CoordinatorState). s.book) does.rest) alive)
action_lives old (Closed other) new rank does alive =
    inl (still old new rank (ap (λ (s : CoordinatorState). s.book) does.rest) alive)
action_lives old (Came other bytes) new rank does alive =
    inl (still old new rank (ap (λ (s : CoordinatorState). s.book) does.rest) alive)
action_lives old (Took other report answer) new rank does alive =
    let heard = λ (mild : (is_deadly answer ≡ false) ⊎ (other ≢ rank)).
    subst (λ (s : CoordinatorState). Alive s.book.ranks rank) (sym does.rest)
    (heard_lives answer other report old.book rank mild alive) in
    elim (same_or_not other rank) [
      | inl same ↦ elim (cases_Bool (is_deadly answer)) [
        | inl deadly ↦ inr (same, deadly)
        | inr mild ↦ inl (heard (inl mild))
      ]
      | inr differ ↦ inl (heard (inr differ))
    ]
action_lives old (Lost other cause) new rank does alive = elim (same_or_not other rank) [
  | inl same ↦ inr same
  | inr differ ↦ inl (subst (λ (b : BookState). Alive b.ranks rank) (sym does.book)
      (killed_lives other old.book rank differ alive))
]
action_lives old Decided new rank does alive = inl (decided_lives old.book new.book rank does.is alive)
action_lives old (Sent other order) new rank does alive =
    inl (left old.book new.book rank (ap (λ (b : BookState). b.ranks) does.told.rest) alive)
action_lives old (Unsent other order) new rank does alive = elim (same_or_not other rank) [
  | inl same ↦ inr same
  | inr differ ↦ inl (subst (λ (s : CoordinatorState). Alive s.book.ranks rank) (sym does.rest)
      (killed_lives other does.without rank differ
      (left old.book does.without rank (ap (λ (b : BookState). b.ranks) does.told.rest) alive)))
]
action_lives old (Passed other order) new rank does alive =
    inl (left old.book new.book rank (ap (λ (b : BookState). b.ranks) does.told.rest) alive)
action_lives old Broke new rank does alive =
    inl (still old new rank (ap (λ (s : CoordinatorState). s.book) does.rest) alive)
action_lives old (Unclosed other) new rank does alive =
    inl (still old new rank (ap (λ (s : CoordinatorState). s.book) does.rest) alive)
action_lives old (Halted steps) new rank does alive = inl (stands_lives steps old.book new.book rank does.is alive)
action_lives old (Unwritten other order) new rank does alive =
    inl (left old.book new.book rank (ap (λ (b : BookState). b.ranks) does.told.rest) alive)
action_lives old (Unfed other bytes) new rank does alive =
    inl (still old new rank (ap (λ (s : CoordinatorState). s.book) does.rest) alive)
action_lives old Unread new rank does alive =
    inl (still old new rank (ap (λ (s : CoordinatorState). s.book) does.1) alive)
action_lives old Saved new rank does alive =
    inl (still old new rank (ap (λ (s : CoordinatorState). s.book) does.rest) alive)

behind : (rank : ℕ) (action : Action) (actions : List Action) → HasCause rank actions → HasCause rank (action ∷ actions)
behind rank action actions cause =
    record { action = cause.action; among = Contains-append_right (action ∷ []) actions cause.action cause.among; ends = cause.ends }

-- it is alive at the end, or one of the actions was its end
trace_lives : (old : CoordinatorState) (actions : List Action) (new : CoordinatorState) (rank : ℕ) → IsTrace old actions new
    → Alive old.book.ranks rank → Alive new.book.ranks rank ⊎ HasCause rank actions
trace_lives old [] new rank same alive = inl (still old new rank (ap (λ (s : CoordinatorState). s.book) same) alive)
trace_lives old (action ∷ actions) new rank (mid, does, more) alive = elim (action_lives old action mid rank does alive) [
  | inl lives ↦ elim (trace_lives mid actions new rank more lives) [
    | inl now ↦ inl now
    | inr cause ↦ inr (behind rank action actions cause)
  ]
  | inr ends ↦ inr (record { action = action; among = Contains-append_left (action ∷ []) actions action (Contains-push [] action); ends = ends })
]

pub dead_has_cause : (old : CoordinatorState) (actions : List Action) (new : CoordinatorState) (rank : ℕ) → IsTrace old actions new
    → Alive old.book.ranks rank → is_alive (state_at new.book.ranks rank) ≡ false → HasCause rank actions
dead_has_cause old actions new rank trace alive dead = elim (trace_lives old actions new rank trace alive) [
  | inl now ↦ absurd (false≢true (sym dead ∙ now))
  | inr cause ↦ cause
]

-- ---- at the begin

abbrev pub AreAlive : BookState → Type 0
AreAlive b = (rank : ℕ) → rank < ranks_of b → Alive b.ranks rank

pub opening_alive : (o : Opening) → AreAlive (opening_book o)
opening_alive o rank there =
    let below : rank < o.settings.solvers =
    subst (λ (n : ℕ). rank < n) (length-replicate o.settings.solvers Absent) there in
    ap (λ (state : State). is_alive state)
    (get_or-replicate o.settings.solvers rank Absent (Dead Died) below)
