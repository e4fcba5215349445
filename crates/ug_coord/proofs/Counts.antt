-- What a coordinator does to the count of the reports that were received.
use Rattle.std.proofs.Common.{◌≡◌, inl, inr, ℕ, zero, suc, ℤ, ◌+◌, ◌<◌, ◌≤◌, ◌^◌, Bool, true, false, List, [], ◌∷◌, Option, None, Some, refl, sym, ap, subst, ◌∙◌, arith}
use Rattle.std.proofs.lemmas.Bool.{cases_lt}
use Rattle.std.specs.Prelude.{MatchBool, if◌then◌else◌, nat_lt}
use Rattle.ug_frames.specs.declared.report.Report.{Report}
use Rattle.ug_frames.specs.declared.report.Report.TheVariants.{Ready, Solution, Hand, State as Reported, Done, Ended as Over}
use Rattle.ug_nodes.specs.declared.change.Change.{Change}
use Rattle.ug_pool.specs.declared.entry.Entry.{Entry}
use Rattle.ug_ranks.specs.Looks.{is_idle, is_racing}
use Rattle.ug_ranks.specs.States.{state_at}
use Rattle.ug_ranks.specs.declared.state.State.{State}
use Rattle.ug_ranks.specs.declared.state.State.TheVariants.{Absent, Idle, Racing, Active, Dead}
use Rattle.ug_rules.specs.declared.demand.Wanted.{Wanted}
use Rattle.ug_rules.specs.declared.demand.Wanted.TheVariants.{Ask, Enough, Nothing}
use Rattle.ug_rules.specs.declared.heard.Heard.{Heard}
use Rattle.ug_rules.specs.declared.heard.Heard.TheVariants.{Kept, Stale, Early, Broken, NotBetter, InRace, Again, Gap, Outside, Unbacked, Short, Memory}
use Rattle.ug_rules.specs.declared.settings.Settings.{Settings}
use Rattle.ug_rules.specs.declared.told.Told.{Told}
use Rattle.ug_rules.specs.State.{BookState, cutoff_of_best}
use Rattle.ug_rules.specs.Deaths.{killed, killed_at, lost_by, with_dead}
use Rattle.ug_rules.specs.Deciding.{IsDecided, IsRaceEnded, IsReadied, Stands, announced, announced_as, assigned, assigned_by, assigned_times, collected, dropped, given, handouts, is_race_due, race_begun, race_begun_with, raced_by, raced_by_all, same_cutoff, stopped_collecting}
use Rattle.ug_rules.specs.Hearing.{after_hearing, counted, counted_under, done_at, handed_at, is_deadly, kept, killed_under, taken_up}
use Rattle.ug_rules.specs.Ranks.{ranks_that}
use Rattle.ug_book.specs.Reads.{IsOrderTold}
use Rattle.ug_book.specs.Views.{IsSameRun}
use Rattle.ug_coord.specs.Actions.{Broke, Came, Closed, Decided, Action, NextState, Halted, IsTrace, Kept as Saved, Launched, Lost, Passed, Sent, SetUp, CoordinatorState, Took, Unclosed, Unfed, Unread, Unsent, Unwritten}
use Rattle.ug_coord.specs.Ends.{IsOver}
use Rattle.ug_coord.specs.Coordinators.{HearsOne, CoordinatorSeen, IsOneMore, IsQuiet}
use Rattle.ug_coord.proofs.Kept.{run_on, same_of}

-- how many reports were received, and the settings
record Tally : Type 0 where
  pub heard : ℕ
  pub settings : Settings

abbrev tally : BookState → Tally
tally b = record { heard = b.heard; settings = b.settings }

abbrev Same : BookState → BookState → Type 0
Same old new = tally new ≡ tally old

either : (b : Bool) (x y old : BookState) → Same old x → Same old y → Same old (if b then x else y)
either true x y old one two = one
either false x y old one two = two

-- ---- a rank is lost

lost_same : (ranks : List ℕ) (raced : Option Entry) (b : BookState) → Same b (lost_by ranks raced b)
lost_same (r ∷ rs) raced b = refl
lost_same [] None b = refl
lost_same [] (Some entry) b = refl

killed_at_same : (state : State) (r : ℕ) (b : BookState) → Same b (killed_at state r b)
killed_at_same Absent r b = refl
killed_at_same Idle r b = refl
killed_at_same (Racing racer) r b =
    let dead : BookState = with_dead r b in
    lost_same (ranks_that is_racing dead.ranks) dead.raced dead
killed_at_same (Active work) r b = refl
killed_at_same (Dead how) r b = refl

killed_same : (r : ℕ) (b : BookState) → Same b (killed r b)
killed_same r b = killed_at_same (state_at b.ranks r) r b

-- ---- it is decided

announced_same : (cutoff : Option ℤ) (b : BookState) → Same b (announced_as cutoff b)
announced_same None b = refl
announced_same (Some cutoff) b =
    either (same_cutoff b.announced cutoff) b _ b refl refl

ready_same : (old new : BookState) → IsRaceEnded old new → Same old new
ready_same old new ended = elim ended [
  | inl won ↦ ap tally won.1.done
  | inr none ↦ ap tally none.same
]

raced_same : (ranks : List ℕ) (entry : Entry) (b : BookState) → Same b (raced_by_all ranks entry b)
raced_same [] entry b = refl
raced_same (r ∷ rs) entry b = raced_same rs entry (raced_by r entry b)

begun_same : (pool : List Entry) (b : BookState) → Same b (race_begun_with pool b)
begun_same [] b = refl
begun_same (entry ∷ rest) b =
    raced_same (ranks_that is_idle b.ranks) entry (record b { pool = rest; raced = Some entry })

assigned_same : (ranks : List ℕ) (pool : List Entry) (b : BookState) → Same b (assigned_by ranks pool b)
assigned_same [] pool b = refl
assigned_same (r ∷ rs) [] b = refl
assigned_same (r ∷ rs) (entry ∷ rest) b = refl

times_same : (n : ℕ) (b : BookState) → Same b (assigned_times n b)
times_same zero b = refl
times_same (suc n) b =
    times_same n (assigned b) ∙ assigned_same (ranks_that is_idle b.ranks) b.pool b

given_same : (n : ℕ) (b : BookState) → Same b (given n b)
given_same zero b = refl
given_same (suc n) b =
    either (is_race_due b) (race_begun b) (assigned_times (suc n) b) b (begun_same b.pool b)
    (times_same (suc n) b)

enough_same : (ranks : List ℕ) (b : BookState) → Same b (stopped_collecting ranks b)
enough_same [] b = refl
enough_same (r ∷ rs) b = enough_same rs _

collected_same : (wanted : Wanted) (b : BookState) → Same b (collected wanted b)
collected_same (Ask r count) b = refl
collected_same (Enough ranks) b = enough_same ranks b
collected_same Nothing b = refl

readied_same : (old new : BookState) → IsReadied old new → Same old new
readied_same old new readied =
    ready_same (announced (dropped old)) new readied
    ∙ announced_same (cutoff_of_best (dropped old)) (dropped old)

decided_same : (old new : BookState) → IsDecided old new → Same old new
decided_same old new is =
    let given_out = given (handouts is.ready) is.ready in
    ap tally is.collected_.done ∙ collected_same is.collected_.demand given_out
    ∙ given_same (handouts is.ready) is.ready ∙ readied_same old is.ready is.readied

stands_same : (steps : ℕ) (old new : BookState) → Stands steps old new → Same old new
stands_same zero old new stands = ap tally stands
stands_same (suc zero) old new stands = ap tally stands
stands_same (suc (suc zero)) old new stands =
    ap tally stands ∙ announced_same (cutoff_of_best (dropped old)) (dropped old)
stands_same (suc (suc (suc steps))) old new stands =
    ap tally stands.given_ ∙ given_same steps stands.ready ∙ readied_same old stands.ready stands.readied

-- ---- orders

left_same : (old new : BookState) (told : Told) → IsOrderTold old new told → Same old new
left_same old new told is = ap tally is.rest

-- ---- a report is received

handed_same : (state : State) (r : ℕ) (changes : List Change) (b : BookState) → Same b (handed_at state r changes b)
handed_same Absent r changes b = refl
handed_same Idle r changes b = refl
handed_same (Racing racer) r changes b = refl
handed_same (Active work) r changes b = refl
handed_same (Dead how) r changes b = refl

done_same : (state : State) (r : ℕ) (b : BookState) → Same b (done_at state r b)
done_same Absent r b = refl
done_same Idle r b = refl
done_same (Racing racer) r b = refl
done_same (Active work) r b = refl
done_same (Dead how) r b = refl

kept_same : (r : ℕ) (report : Report) (b : BookState) → Same b (kept r report b)
kept_same r Ready b = refl
kept_same r (Solution ticket x) b = refl
kept_same r (Hand ticket number changes) b = handed_same (state_at b.ranks r) r changes b
kept_same r (Reported ticket count floor) b = refl
kept_same r (Done ticket told count ending) b = done_same (state_at b.ranks r) r b
kept_same r Over b = refl

taken_same : (answer : Heard) (r : ℕ) (report : Report) (b : BookState) → Same b (taken_up answer r report b)
taken_same Kept r report b = kept_same r report b
taken_same Stale r report b = refl
taken_same Early r report b = refl
taken_same (Broken first) r report b = refl
taken_same (NotBetter was given) r report b = refl
taken_same InRace r report b = refl
taken_same Again r report b = refl
taken_same (Gap want got) r report b = refl
taken_same (Outside column) r report b = refl
taken_same (Unbacked cutoff incumbent) r report b = refl
taken_same (Short said was) r report b = refl
taken_same Memory r report b = refl

under_same : (answer : Heard) (r : ℕ) (b : BookState) → Same b (killed_under answer r b)
under_same answer r b = either (is_deadly answer) (killed r b) b b (killed_same r b) refl

one_by : (room : Bool) (heard : ℕ) → IsOneMore heard (if room then heard + 1 else heard)
one_by true heard = inr refl
one_by false heard = inl refl

-- and the settings are the same
record CountsOne (old new : BookState) : Type 0 where
  pub heard : IsOneMore old.heard new.heard
  pub settings : new.settings ≡ old.settings

counted_one : (b : BookState) → CountsOne b (counted b)
counted_one b = record { heard = one_by (nat_lt (b.heard + 1) (2 ^ 64)) b.heard; settings = refl }

under_one : (answer : Heard) (b : BookState) → CountsOne b (counted_under answer b)
under_one Kept b = counted_one b
under_one Stale b = counted_one b
under_one Early b = counted_one b
under_one (Broken first) b = counted_one b
under_one (NotBetter was given) b = counted_one b
under_one InRace b = counted_one b
under_one Again b = counted_one b
under_one (Gap want got) b = counted_one b
under_one (Outside column) b = counted_one b
under_one (Unbacked cutoff incumbent) b = counted_one b
under_one (Short said was) b = counted_one b
under_one Memory b = record { heard = inl refl; settings = refl }

heard_one : (answer : Heard) (r : ℕ) (report : Report) (b : BookState)
    → CountsOne b (after_hearing answer r report b)
heard_one answer r report b =
    let taken : BookState = taken_up answer r report b in
    let mid : BookState = killed_under answer r taken in
    let same : Same b mid = under_same answer r taken ∙ taken_same answer r report b in
    let one = under_one answer mid in
    record {
      heard = subst (λ (heard : ℕ). IsOneMore heard (after_hearing answer r report b).heard)
          (ap (λ (t : Tally). t.heard) same) one.heard;
      settings = one.settings ∙ ap (λ (t : Tally). t.settings) same;
    }

-- ---- what a coordinator's calls do

quiet_by : (old new : CoordinatorSeen) → IsSameRun old.book new.book → Same old.book new.book
    → new.pacing ≡ old.pacing → IsQuiet old new
quiet_by old new run same pacing =
    record { run = run; heard = ap (λ (t : Tally). t.heard) same; pacing = pacing }

pub lost_quiet : (r : ℕ) (old new : CoordinatorSeen) → IsSameRun old.book new.book
    → new.book ≡ killed r old.book → new.pacing ≡ old.pacing → IsQuiet old new
lost_quiet r old new run is = quiet_by old new run (ap tally is ∙ killed_same r old.book)

pub decided_quiet : (old new : CoordinatorSeen) → IsSameRun old.book new.book → IsDecided old.book new.book
    → new.pacing ≡ old.pacing → IsQuiet old new
decided_quiet old new run is = quiet_by old new run (decided_same old.book new.book is)

pub stands_quiet : (steps : ℕ) (old new : CoordinatorSeen) → IsSameRun old.book new.book
    → Stands steps old.book new.book → new.pacing ≡ old.pacing → IsQuiet old new
stands_quiet steps old new run stands =
    quiet_by old new run (stands_same steps old.book new.book stands)

pub left_quiet : (old new : CoordinatorSeen) (told : Told) → IsSameRun old.book new.book
    → IsOrderTold old.book new.book told → new.pacing ≡ old.pacing → IsQuiet old new
left_quiet old new told run is = quiet_by old new run (left_same old.book new.book told is)

pub heard_by : (answer : Heard) (r : ℕ) (report : Report) (old new : CoordinatorSeen)
    → IsSameRun old.book new.book → new.book ≡ after_hearing answer r report old.book
    → new.pacing ≡ old.pacing → HearsOne old new
heard_by answer r report old new run is pacing = record {
  run = run;
  heard = subst (λ (b : BookState). IsOneMore old.book.heard b.heard) (sym is)
      (heard_one answer r report old.book).heard;
  pacing = pacing;
}

-- if neither the book nor its pacing changed
pub quiet_none : (old new : CoordinatorSeen) → new.book ≡ old.book → new.pacing ≡ old.pacing
    → IsQuiet old new
quiet_none old new same pacing =
    quiet_by old new (same_of old.book new.book same) (ap tally same) pacing

pub quiet_on : (a b c : CoordinatorSeen) → IsQuiet a b → IsQuiet b c → IsQuiet a c
quiet_on a b c one two = record {
  run = run_on a.book b.book c.book one.run two.run;
  heard = two.heard ∙ one.heard;
  pacing = two.pacing ∙ one.pacing;
}

pub quiet_one : (old new : CoordinatorSeen) → IsQuiet old new → HearsOne old new
quiet_one old new quiet =
    record { run = quiet.run; heard = inl quiet.heard; pacing = quiet.pacing }

pub hears_after : (a b c : CoordinatorSeen) → IsQuiet a b → HearsOne b c → HearsOne a c
hears_after a b c quiet hears = record {
  run = run_on a.book b.book c.book quiet.run hears.run;
  heard = subst (λ (heard : ℕ). IsOneMore heard c.book.heard) quiet.heard hears.heard;
  pacing = hears.pacing ∙ quiet.pacing;
}

-- and then what a step receives
pub steps_after : (result : Bool) (a b c : CoordinatorSeen) → IsQuiet a b
    → MatchBool result (HearsOne b c) (IsQuiet b c)
    → MatchBool result (HearsOne a c) (IsQuiet a c)
steps_after true a b c quiet hears = hears_after a b c quiet hears
steps_after false a b c quiet hears = quiet_on a b c quiet hears

-- ---- no more are received than may be

abbrev pub IsWithin : BookState → Type 0
IsWithin b = b.heard ≤ b.settings.limit

same_within : (old new : BookState) → Same old new → IsWithin old → IsWithin new
same_within old new same within =
    omega (arith, within, ap (λ (t : Tally). t.heard) same, ap (λ (t : Tally). t.settings.limit) same)

-- an end is due where as many were received as may be
below_limit : (b : BookState) → ¬ IsOver b → b.heard < b.settings.limit
below_limit b more = elim (cases_lt b.heard b.settings.limit) [
  | inl below ↦ below
  | inr past ↦ absurd (more (inr (inl past)))
]

one_within : (old new : BookState) → CountsOne old new → old.heard < old.settings.limit → IsWithin new
one_within old new one below = elim one.heard [
  | inl same ↦ omega (arith, below, same, ap (λ (s : Settings). s.limit) one.settings)
  | inr more ↦ omega (arith, below, more, ap (λ (s : Settings). s.limit) one.settings)
]

book_within : (old new : CoordinatorState) → (f : new.book ≡ old.book) → IsWithin old.book → IsWithin new.book
book_within old new same within = same_within old.book new.book (ap tally same) within

action_within : (old : CoordinatorState) (action : Action) (new : CoordinatorState) → NextState old action new → IsWithin old.book
    → IsWithin new.book
action_within old (Launched rank) new does within =
    book_within old new (ap (λ (s : CoordinatorState). s.book) does.1) within
action_within old (SetUp rank bytes) new does within =
    book_within old new (ap (λ (s : CoordinatorState). s.book) does.rest) within
action_within old (Closed rank) new does within =
    book_within old new (ap (λ (s : CoordinatorState). s.book) does.rest) within
action_within old (Came rank bytes) new does within =
    book_within old new (ap (λ (s : CoordinatorState). s.book) does.rest) within
action_within old (Took rank report answer) new does within =
    subst (λ (s : CoordinatorState). IsWithin s.book) (sym does.rest)
    (one_within old.book (after_hearing answer rank report old.book) (heard_one answer rank report old.book)
    (below_limit old.book does.reading.settled.more))
action_within old (Lost rank cause) new does within =
    same_within old.book new.book (ap tally does.book ∙ killed_same rank old.book) within
action_within old Decided new does within =
    same_within old.book new.book (decided_same old.book new.book does.is) within
action_within old (Sent rank order) new does within =
    same_within old.book new.book (left_same old.book new.book _ does.told) within
action_within old (Unsent rank order) new does within =
    same_within old.book new.book (ap (λ (s : CoordinatorState). tally s.book) does.rest
    ∙ killed_same rank does.without ∙ left_same old.book does.without _ does.told) within
action_within old (Passed rank order) new does within =
    same_within old.book new.book (left_same old.book new.book _ does.told) within
action_within old Broke new does within =
    book_within old new (ap (λ (s : CoordinatorState). s.book) does.rest) within
action_within old (Unclosed rank) new does within =
    book_within old new (ap (λ (s : CoordinatorState). s.book) does.rest) within
action_within old (Halted steps) new does within =
    same_within old.book new.book (stands_same steps old.book new.book does.is) within
action_within old (Unwritten rank order) new does within =
    same_within old.book new.book (left_same old.book new.book _ does.told) within
action_within old (Unfed rank bytes) new does within =
    book_within old new (ap (λ (s : CoordinatorState). s.book) does.rest) within
action_within old Unread new does within =
    book_within old new (ap (λ (s : CoordinatorState). s.book) does.1) within
action_within old Saved new does within =
    book_within old new (ap (λ (s : CoordinatorState). s.book) does.rest) within

pub trace_within : (old : CoordinatorState) (actions : List Action) (new : CoordinatorState) → IsTrace old actions new
    → IsWithin old.book → IsWithin new.book
trace_within old [] new same within = book_within old new (ap (λ (s : CoordinatorState). s.book) same) within
trace_within old (action ∷ actions) new (mid, does, more) within =
    trace_within mid actions new more (action_within old action mid does within)
