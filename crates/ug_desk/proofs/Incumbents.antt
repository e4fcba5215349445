-- The incumbent: no call of a desk changes it but a point that is kept, which is better.
use Rattle.std.proofs.Common.{◌≡◌, ◌≢◌, ◌⊎◌, inl, inr, ℕ, zero, suc, ℤ, Bool, true, false, List, [], ◌∷◌, Option, Some, None, Ok, Err, refl, sym, ap, ◌∙◌, subst}
use Rattle.std.specs.Prelude.{if◌then◌else◌, MatchBool}
use Rattle.ug_rows.specs.declared.area.Interval.{Interval}
use Rattle.std.proofs.lemmas.Bool.{false≢true}
use Rattle.std.proofs.lemmas.Option.{none-some, same_Some}
use Rattle.ug_problem.specs.Instances.{Instance}
use Rattle.ug_problem.specs.Offers.{IsBetter, IsNotBetter}
use Rattle.ug_nodes.specs.declared.name.Ticket.{Ticket}
use Rattle.ug_nodes.specs.declared.change.Change.{Change}
use Rattle.ug_nodes.specs.Names.{IsTicketBefore}
use Rattle.ug_nodes.proofs.Orders.{ticket_either, ticket_not_itself}
use Rattle.ug_pool.specs.declared.entry.Entry as pool
use Rattle.ug_frames.specs.declared.report.Report.{Report}
use Rattle.ug_frames.specs.declared.report.Report.TheVariants.{Ready, Solution, Hand, State as Reported, Done, Ended}
use Rattle.ug_ranks.specs.declared.state.State.{State}
use Rattle.ug_ranks.specs.declared.state.State.TheVariants.{Absent, Idle, Racing, Active, Dead}
use Rattle.ug_ranks.specs.States.{state_at}
use Rattle.ug_ranks.specs.Looks.{is_idle, is_racing, ticket_at}
use Rattle.ug_rules.specs.declared.heard.Heard.{Heard}
use Rattle.ug_rules.specs.declared.heard.Heard.TheVariants.{Kept, Stale, Early, Broken, NotBetter, InRace, Again, Gap, Outside, Unbacked, Short, Memory}
use Rattle.ug_rules.specs.declared.demand.Wanted.{Wanted}
use Rattle.ug_rules.specs.declared.demand.Wanted.TheVariants.{Ask, Enough, Nothing}
use Rattle.ug_rules.specs.declared.settings.Settings.{Settings}
use Rattle.ug_rules.specs.State.{BookState, cutoff_of_best}
use Rattle.ug_rules.specs.Ranks.{ranks_that}
use Rattle.ug_rules.specs.Deaths.{killed, killed_at, lost_by, with_dead}
use Rattle.ug_rules.specs.Hearing.{IsCurrentDue, IsDueUnder, after_hearing, counted_under, done_at, handed_at, is_deadly, kept, killed_under, taken_up}
use Rattle.ug_rules.specs.Deciding.{IsDecided, IsRaceEnded, Stands, announced_as, assigned, assigned_by, assigned_times, collected, dropped, given, is_race_due, race_begun, race_begun_with, raced_by, raced_by_all, same_cutoff, stopped_collecting}
use Rattle.ug_worker.specs.declared.took.Untaken.TheVariants.{Deciding, Making}
use Rattle.ug_desk.specs.Decided.{HasDecided, HasStood}
use Rattle.ug_desk.specs.DeskStates.{DeskState, own_ticket}
use Rattle.ug_desk.specs.Reports.{HasHanded, HasNoted, HasOffered}
use Rattle.ug_desk.specs.Takes.{with_joined}
use Rattle.ug_desk.specs.Histories.{Call, Step, taken, offered, handed, stated, ended, left, copied}

-- the point to beat: the problem, the settings and the incumbent
pub record Aim : Type 0 where
  pub problem : Instance
  pub settings : Settings
  pub best : Option (List ℤ)

abbrev pub aim_of : BookState → Aim
aim_of b = record { problem = b.problem; settings = b.settings; best = b.best }

-- it is the same
abbrev pub Stays : BookState → BookState → Type 0
Stays old new = aim_of new ≡ aim_of old

then_stays : (old mid new : BookState) → Stays old mid → Stays mid new → Stays old new
then_stays old mid new one two = two ∙ one

-- ---- a death

lost_stays : (rs : List ℕ) (raced : Option pool.Entry) (b : BookState) → Stays b (lost_by rs raced b)
lost_stays (r ∷ rs) raced b = refl
lost_stays [] None b = refl
lost_stays [] (Some entry) b = refl

killed_at_stays : (s : State) (r : ℕ) (b : BookState) → Stays b (killed_at s r b)
killed_at_stays Absent r b = refl
killed_at_stays Idle r b = refl
killed_at_stays (Racing racer) r b =
    lost_stays (ranks_that is_racing (with_dead r b).ranks) b.raced (with_dead r b)
killed_at_stays (Active work) r b = refl
killed_at_stays (Dead how) r b = refl

killed_stays : (r : ℕ) (b : BookState) → Stays b (killed r b)
killed_stays r b = killed_at_stays (state_at b.ranks r) r b

-- ---- a report

counted_stays : (answer : Heard) (b : BookState) → Stays b (counted_under answer b)
counted_stays Kept b = refl
counted_stays Stale b = refl
counted_stays Early b = refl
counted_stays (Broken first) b = refl
counted_stays (NotBetter was found) b = refl
counted_stays InRace b = refl
counted_stays Again b = refl
counted_stays (Gap want got) b = refl
counted_stays (Outside column) b = refl
counted_stays (Unbacked cutoff incumbent) b = refl
counted_stays (Short said was) b = refl
counted_stays Memory b = refl

deadly_stays : (deadly : Bool) (r : ℕ) (b : BookState) → Stays b (if deadly then killed r b else b)
deadly_stays true r b = killed_stays r b
deadly_stays false r b = refl

-- the effect of an answer after taking the report up
under_stays : (answer : Heard) (r : ℕ) (b : BookState)
    → Stays b (counted_under answer (killed_under answer r b))
under_stays answer r b =
    then_stays b (killed_under answer r b) (counted_under answer (killed_under answer r b))
    (deadly_stays (is_deadly answer) r b) (counted_stays answer (killed_under answer r b))

handed_stays : (s : State) (r : ℕ) (changes : List Change) (b : BookState) → Stays b (handed_at s r changes b)
handed_stays Absent r changes b = refl
handed_stays Idle r changes b = refl
handed_stays (Racing racer) r changes b = refl
handed_stays (Active work) r changes b = refl
handed_stays (Dead how) r changes b = refl

done_stays : (s : State) (r : ℕ) (b : BookState) → Stays b (done_at s r b)
done_stays Absent r b = refl
done_stays Idle r b = refl
done_stays (Racing racer) r b = refl
done_stays (Active work) r b = refl
done_stays (Dead how) r b = refl

-- the report is not of a point
abbrev IsNoPoint : Report → Type 0
IsNoPoint (Solution ticket x) = ⊥
IsNoPoint report = Unit {0}

kept_stays : (r : ℕ) (report : Report) (b : BookState) → IsNoPoint report → Stays b (kept r report b)
kept_stays r Ready b off = refl
kept_stays r (Solution ticket x) b off = absurd off
kept_stays r (Hand ticket number changes) b off = handed_stays (state_at b.ranks r) r changes b
kept_stays r (Reported ticket count floor) b off = refl
kept_stays r (Done ticket told count ending) b off = done_stays (state_at b.ranks r) r b
kept_stays r Ended b off = refl

-- a report that is not kept is not taken up
abbrev is_kept : Heard → Bool
is_kept Kept = true
is_kept answer = false

not_taken : (answer : Heard) (r : ℕ) (report : Report) (b : BookState) → is_kept answer ≡ false
    → taken_up answer r report b ≡ b
not_taken Kept r report b off = cc
not_taken Stale r report b off = refl
not_taken Early r report b off = refl
not_taken (Broken first) r report b off = refl
not_taken (NotBetter was found) r report b off = refl
not_taken InRace r report b off = refl
not_taken Again r report b off = refl
not_taken (Gap want got) r report b off = refl
not_taken (Outside column) r report b off = refl
not_taken (Unbacked cutoff incumbent) r report b off = refl
not_taken (Short said was) r report b off = refl
not_taken Memory r report b off = refl

bool_cases : (b : Bool) → (b ≡ true) ⊎ (b ≡ false)
bool_cases true = inl refl
bool_cases false = inr refl

cases_kept : (answer : Heard) → (is_kept answer ≡ true) ⊎ (is_kept answer ≡ false)
cases_kept answer = bool_cases (is_kept answer)

is_kept_so : (answer : Heard) → is_kept answer ≡ true → answer ≡ Kept
is_kept_so Kept so = refl
is_kept_so Stale so = cc
is_kept_so Early so = cc
is_kept_so (Broken first) so = cc
is_kept_so (NotBetter was found) so = cc
is_kept_so InRace so = cc
is_kept_so Again so = cc
is_kept_so (Gap want got) so = cc
is_kept_so (Outside column) so = cc
is_kept_so (Unbacked cutoff incumbent) so = cc
is_kept_so (Short said was) so = cc
is_kept_so Memory so = cc

taken_stays : (kept_ : Bool) (answer : Heard) (r : ℕ) (report : Report) (b : BookState)
    → is_kept answer ≡ kept_ → IsNoPoint report → Stays b (taken_up answer r report b)
taken_stays true answer r report b is off =
    subst (λ (a : Heard). Stays b (taken_up a r report b)) (sym (is_kept_so answer is))
    (kept_stays r report b off)
taken_stays false answer r report b is off =
    ap aim_of (not_taken answer r report b is)

heard_stays : (answer : Heard) (r : ℕ) (report : Report) (b new : BookState) → IsNoPoint report
    → new ≡ after_hearing answer r report b → Stays b new
heard_stays answer r report b new off is =
    ap aim_of is
    ∙ then_stays b (taken_up answer r report b) (after_hearing answer r report b)
    (taken_stays (is_kept answer) answer r report b refl off)
    (under_stays answer r (taken_up answer r report b))

-- a point that is not kept
unkept_stays : (answer : Heard) (r : ℕ) (report : Report) (b new : BookState) → is_kept answer ≡ false
    → new ≡ after_hearing answer r report b → Stays b new
unkept_stays answer r report b new off is =
    ap aim_of is
    ∙ then_stays b (taken_up answer r report b) (after_hearing answer r report b)
    (ap aim_of (not_taken answer r report b off))
    (under_stays answer r (taken_up answer r report b))

-- ---- a decision

announced_if_stays : (same : Bool) (b new : BookState) → Stays b new → Stays b (if same then b else new)
announced_if_stays true b new stays = refl
announced_if_stays false b new stays = stays

announced_stays : (cutoff : Option ℤ) (b : BookState) → Stays b (announced_as cutoff b)
announced_stays None b = refl
announced_stays (Some cutoff) b = announced_if_stays (same_cutoff b.announced cutoff) b _ refl

dropped_stays : (b : BookState) → Stays b (announced_as (cutoff_of_best (dropped b)) (dropped b))
dropped_stays b = announced_stays (cutoff_of_best (dropped b)) (dropped b)

race_stays : (old new : BookState) → IsRaceEnded old new → Stays old new
race_stays old new (inl won) = ap aim_of won.1.done
race_stays old new (inr none) = ap aim_of none.same

raced_stays : (rs : List ℕ) (entry : pool.Entry) (b : BookState) → Stays b (raced_by_all rs entry b)
raced_stays [] entry b = refl
raced_stays (r ∷ rs) entry b = raced_stays rs entry (raced_by r entry b)

begun_stays : (entries : List pool.Entry) (b : BookState) → Stays b (race_begun_with entries b)
begun_stays [] b = refl
begun_stays (entry ∷ rest) b = raced_stays (ranks_that is_idle b.ranks) entry (record b { pool = rest; raced = Some entry })

assigned_by_stays : (rs : List ℕ) (entries : List pool.Entry) (b : BookState)
    → Stays b (assigned_by rs entries b)
assigned_by_stays [] entries b = refl
assigned_by_stays (r ∷ rs) [] b = refl
assigned_by_stays (r ∷ rs) (entry ∷ rest) b = refl

assigned_stays : (n : ℕ) (b : BookState) → Stays b (assigned_times n b)
assigned_stays zero b = refl
assigned_stays (suc n) b =
    then_stays b (assigned b) (assigned_times n (assigned b))
    (assigned_by_stays (ranks_that is_idle b.ranks) b.pool b) (assigned_stays n (assigned b))

given_if_stays : (race : Bool) (b one two : BookState) → Stays b one → Stays b two
    → Stays b (if race then one else two)
given_if_stays true b one two first second = first
given_if_stays false b one two first second = second

given_stays : (n : ℕ) (b : BookState) → Stays b (given n b)
given_stays zero b = refl
given_stays (suc n) b =
    given_if_stays (is_race_due b) b (race_begun b) (assigned_times (suc n) b)
    (begun_stays b.pool b) (assigned_stays (suc n) b)

stopped_stays : (rs : List ℕ) (b : BookState) → Stays b (stopped_collecting rs b)
stopped_stays [] b = refl
stopped_stays (r ∷ rs) b = stopped_stays rs _

collected_stays : (demand : Wanted) (b : BookState) → Stays b (collected demand b)
collected_stays (Ask r count) b = refl
collected_stays (Enough ranks) b = stopped_stays ranks b
collected_stays Nothing b = refl

readied_stays : (old ready : BookState) → IsRaceEnded (announced_as (cutoff_of_best (dropped old)) (dropped old)) ready
    → Stays old ready
readied_stays old ready won =
    then_stays old (announced_as (cutoff_of_best (dropped old)) (dropped old)) ready
    (dropped_stays old) (race_stays _ ready won)

decided_stays : (old new : BookState) → IsDecided old new → Stays old new
decided_stays old new d =
    ap aim_of d.collected_.done
    ∙ (collected_stays d.collected_.demand _
    ∙ (given_stays _ d.ready ∙ readied_stays old d.ready d.readied))

stands_stays : (steps : ℕ) (old new : BookState) → Stands steps old new → Stays old new
stands_stays zero old new is = ap aim_of is
stands_stays (suc zero) old new is = ap aim_of is
stands_stays (suc (suc zero)) old new is = ap aim_of is ∙ dropped_stays old
stands_stays (suc (suc (suc steps))) old new s =
    ap aim_of s.given_
    ∙ (given_stays steps s.ready ∙ readied_stays old s.ready s.readied)

has_decided_stays : (old new : BookState) → HasDecided old new → Stays old new
has_decided_stays old new d =
    ap aim_of d.dropped ∙ decided_stays old d.decided d.made

has_stood_stays : (steps : ℕ) (old new : BookState) → HasStood steps old new → Stays old new
has_stood_stays steps old new s =
    ap aim_of s.dropped ∙ stands_stays steps old s.decided s.stands

-- ---- a call

-- the call offers no point
abbrev pub OffersNone : Call → Type 0
OffersNone (offered x answer) = ⊥
OffersNone call = Unit {0}

moved_stays : (races : Bool) (old new : BookState)
    → MatchBool races (HasDecided old new) (new ≡ old) → Stays old new
moved_stays true old new moved = has_decided_stays old new moved
moved_stays false old new moved = ap aim_of moved

box_stays : (r : ℕ) (ticket : Ticket) (number : ℕ) (area : List Interval) (answer : Heard)
    (old new : BookState) → HasHanded r ticket number area answer old new → Stays old new
box_stays r ticket number area answer old new (inl h) =
    heard_stays answer r (Hand ticket number h.changes) old new tt h.heard.done
box_stays r ticket number area answer old new (inr m) = ap aim_of m.same

noted_stays : (r : ℕ) (ticket : Ticket) (count : ℕ) (floor : ℤ) (old new : BookState)
    → HasNoted r ticket count floor old new → Stays old new
noted_stays r ticket count floor old new h =
    heard_stays h.answer r (Reported ticket count floor) old new tt h.heard.done

pub step_stays : (r : ℕ) (call : Call) (old new : DeskState) → OffersNone call → Step r call old new
    → Stays old.book new.book
step_stays r (taken (Ok took)) old new off s =
    has_decided_stays (with_joined r old.book) new.book s.answered.decided
step_stays r (taken (Err (Deciding stood))) old new off s =
    has_stood_stays stood (with_joined r old.book) new.book s.book
step_stays r (taken (Err Making)) old new off s =
    has_decided_stays (with_joined r old.book) new.book s.book
step_stays r (offered x answer) old new off s = absurd off
step_stays r (handed number area answer) old new off s =
    box_stays r (own_ticket old r) number area answer old.book new.book s.book
step_stays r (stated count floor (Ok reply)) old new off s =
    then_stays old.book s.book.noted new.book
    (noted_stays r (own_ticket old r) count floor old.book s.book.noted s.book.told)
    (moved_stays _ s.book.noted new.book s.book.moved)
step_stays r (stated count floor (Err end)) old new off s =
    then_stays old.book s.book.noted new.book
    (noted_stays r (own_ticket old r) count floor old.book s.book.noted s.book.told)
    (has_stood_stays end.stood s.book.noted new.book s.book.halted.stands)
step_stays r (ended task answer) old new off s =
    heard_stays answer r _ old.book new.book tt s.book.done
step_stays r left old new off s = ap aim_of s.book ∙ killed_stays r old.book
step_stays r copied old new off s = ap (λ (d : DeskState). aim_of d.book) s

-- ---- a point

not_this : (t u : Ticket) → t ≡ u → IsTicketBefore t u ⊎ IsTicketBefore u t → ⊥
not_this t u e (inl h) = ticket_not_itself u (subst (λ k. IsTicketBefore k u) e h)
not_this t u e (inr h) = ticket_not_itself u (subst (λ k. IsTicketBefore u k) e h)

this_or_not : (own : Option Ticket) (u : Ticket) → (own ≡ Some u) ⊎ (own ≢ Some u)
this_or_not None u = inr (λ e. none-some u e)
this_or_not (Some t) u = elim (ticket_either t u) [
  | inl e ↦ inl (ap Some e)
  | inr apart ↦ inr (λ e. not_this t u (same_Some t u e) apart)
]

kept_not_stale : Kept ≡ Stale → ⊥
kept_not_stale e = cc

kept_due : (b : BookState) (s : State) (ticket : Ticket) (report : Report)
    → IsDueUnder b s ticket report Kept → IsCurrentDue b s report Kept
kept_due b s ticket report due = elim (this_or_not (ticket_at s) ticket) [
  | inl e ↦ due.current e
  | inr ne ↦ absurd (kept_not_stale (due.other ne))
]

point_due : (b : BookState) (s : State) (ticket : Ticket) (x : List ℤ)
    → IsCurrentDue b s (Solution ticket x) Kept → IsBetter b.problem b.best x
point_due b Absent ticket x due = absurd due
point_due b Idle ticket x due = absurd due
point_due b (Racing racer) ticket x due = due
point_due b (Active work) ticket x due = due
point_due b (Dead how) ticket x due = absurd due

not_better_not_stale : (was given_ : ℤ) → NotBetter was given_ ≡ Stale → ⊥
not_better_not_stale was given_ e = cc

not_better_at : (b : BookState) (s : State) (ticket : Ticket) (x : List ℤ) (was given_ : ℤ)
    → IsCurrentDue b s (Solution ticket x) (NotBetter was given_)
    → IsNotBetter b.problem b.best x was given_
not_better_at b Absent ticket x was given_ due = absurd due
not_better_at b Idle ticket x was given_ due = absurd due
not_better_at b (Racing racer) ticket x was given_ due = due
not_better_at b (Active work) ticket x was given_ due = due
not_better_at b (Dead how) ticket x was given_ due = absurd due

-- a point that is not better was judged under the rank's ticket
pub not_better_due : (b : BookState) (s : State) (ticket : Ticket) (x : List ℤ) (was given_ : ℤ)
    → IsDueUnder b s ticket (Solution ticket x) (NotBetter was given_)
    → IsNotBetter b.problem b.best x was given_
not_better_due b s ticket x was given_ due = elim (this_or_not (ticket_at s) ticket) [
  | inl e ↦ not_better_at b s ticket x was given_ (due.current e)
  | inr ne ↦ absurd (not_better_not_stale was given_ (due.other ne))
]

-- the incumbent is the point, which is better than the one before
pub record IsImproved (x : List ℤ) (old new : BookState) : Type 0 where
  pub better : IsBetter old.problem old.best x
  pub its : aim_of new ≡ record (aim_of old) { best = Some x }

pub kept_improves : (r : ℕ) (ticket : Ticket) (x : List ℤ) (old new : BookState)
    → HasOffered r ticket x Kept old new → IsImproved x old new
kept_improves r ticket x old new h = record {
  better = point_due old (state_at old.ranks r) ticket x
      (kept_due old (state_at old.ranks r) ticket (Solution ticket x) h.due);
  its = ap aim_of h.done;
}

offered_as : (kept_ : Bool) (r : ℕ) (ticket : Ticket) (x : List ℤ) (answer : Heard) (old new : BookState)
    → is_kept answer ≡ kept_ → HasOffered r ticket x answer old new
    → IsImproved x old new ⊎ Stays old new
offered_as true r ticket x answer old new is h =
    inl (kept_improves r ticket x old new
    (subst (λ (a : Heard). HasOffered r ticket x a old new) (is_kept_so answer is) h))
offered_as false r ticket x answer old new is h =
    inr (unkept_stays answer r (Solution ticket x) old new is h.done)

pub point_offered : (r : ℕ) (ticket : Ticket) (x : List ℤ) (answer : Heard) (old new : BookState)
    → HasOffered r ticket x answer old new → IsImproved x old new ⊎ Stays old new
point_offered r ticket x answer old new h =
    offered_as (is_kept answer) r ticket x answer old new refl h

pub kept_or_not : (answer : Heard) → (answer ≡ Kept) ⊎ (answer ≢ Kept)
kept_or_not answer = elim (cases_kept answer) [
  | inl is ↦ inl (is_kept_so answer is)
  | inr is ↦ inr (λ same. false≢true (sym is ∙ ap is_kept same))
]

-- and where it is not kept the incumbent stays
pub unkept : (r : ℕ) (ticket : Ticket) (x : List ℤ) (answer : Heard) (old new : BookState)
    → answer ≢ Kept → HasOffered r ticket x answer old new → Stays old new
unkept r ticket x answer old new off h = elim (cases_kept answer) [
  | inl is ↦ absurd (off (is_kept_so answer is))
  | inr is ↦ unkept_stays answer r (Solution ticket x) old new is h.done
]
