-- The whole: what is kept whatever is received, under the answer that is due.
use Rattle.std.proofs.Common.{◌≡◌, ◌≢◌, ◌⊎◌, inl, inr, ℕ, ℤ, ◌<◌, List, length, refl, ap, sym, ◌∙◌, subst}
use Rattle.std.specs.Prelude.{Option, Some, None}
use Rattle.std.proofs.lemmas.Option.{none-some, same_Some}
use Rattle.ug_nodes.specs.declared.name.Ticket.{Ticket}
use Rattle.ug_nodes.specs.declared.change.Change.{Change}
use Rattle.ug_nodes.specs.Names.{IsTicketBefore}
use Rattle.ug_nodes.proofs.Orders.{ticket_either, ticket_not_itself}
use Rattle.ug_pool.specs.declared.entry.Entry.{Entry}
use Rattle.ug_frames.specs.declared.report.Ending.{Ending}
use Rattle.ug_frames.specs.declared.report.Report.{Report}
use Rattle.ug_frames.specs.declared.report.Report.TheVariants.{Ready, Solution, Hand, State as Reported, Done, Ended}
use Rattle.ug_problem.specs.Offers.{IsBetter}
use Rattle.ug_problem.specs.Incumbents.{one_kept}
use Rattle.ug_problem.proofs.Incumbents.{one_point}
use Rattle.ug_ranks.specs.declared.state.Work.{Work}
use Rattle.ug_ranks.specs.declared.state.State.{State}
use Rattle.ug_ranks.specs.declared.state.State.TheVariants.{Absent, Idle, Racing, Active, Dead}
use Rattle.ug_ranks.specs.States.{state_at}
use Rattle.ug_ledger.specs.Ledgers.{Current, IsCurrent}
use Rattle.ug_ledger.specs.Dones.{IsBackedBy, IsSearched}
use Rattle.ug_ledger.proofs.DoneLemmas.{done_searched}
use Rattle.ug_rules.specs.declared.heard.Heard.TheVariants.{Kept, Stale, InRace}
use Rattle.ug_rules.specs.State.{BookState, current_for, current_of, ledger_of}
use Rattle.ug_ranks.specs.Looks.{ticket_at}
use Rattle.ug_rules.specs.Hearing.{IsComplete, IsCurrentDue, IsDue, IsDueUnder, IsNextHand, handed_at, kept}
use Rattle.ug_rules.specs.Books.{IsBook, IsSoundBook}
use Rattle.ug_rules.specs.HearingLaws.{HasRisingChanges, HearingKeepsBook, HearingKeepsSound, IsTrueReport}
use Rattle.ug_rules.proofs.HeldLemmas.{current_is}
use Rattle.ug_rules.proofs.EventLemmas.{counted_keeps, death_keeps, done_keeps_book, done_keeps_sound, hand_keeps_all, ready_keeps, reported_keeps, solution_keeps}
use Rattle.ug_rules.proofs.HandLemmas.{hand_sound}
use Rattle.ug_rules.proofs.AnswerLemmas.{under_answer}

-- whether a ticket is this one
not_same : (t u : Ticket) → t ≡ u → IsTicketBefore t u ⊎ IsTicketBefore u t → ⊥
not_same t u e (inl h) = ticket_not_itself u (subst (λ k. IsTicketBefore k u) e h)
not_same t u e (inr h) = ticket_not_itself u (subst (λ k. IsTicketBefore u k) e h)

ticket_or_not : (o : Option Ticket) (u : Ticket) → (o ≡ Some u) ⊎ (o ≢ Some u)
ticket_or_not None u = inr (λ e. none-some u e)
ticket_or_not (Some t) u = elim (ticket_either t u) [
  | inl e ↦ inl (ap Some e)
  | inr apart ↦ inr (λ e. not_same t u (same_Some t u e) apart)
]

-- a report under a ticket that is kept is under the current one, and judged so
kept_not_stale : Kept ≡ Stale → ⊥
kept_not_stale e = cc

kept_not_in_race : Kept ≡ InRace → ⊥
kept_not_in_race e = cc

kept_due : (b : BookState) (s : State) (ticket : Ticket) (report : Report)
    → IsDueUnder b s ticket report Kept
    → (ticket_at s ≡ Some ticket) × IsCurrentDue b s report Kept
kept_due b s ticket report due = elim (ticket_or_not (ticket_at s) ticket) [
  | inl e ↦ (e, due.current e)
  | inr ne ↦ absurd (kept_not_stale (due.other ne))
]

-- a point that is kept is better
solution_due : (b : BookState) (s : State) (ticket : Ticket) (x : List ℤ)
    → IsCurrentDue b s (Solution ticket x) Kept → IsBetter b.problem b.best x
solution_due b Absent ticket x due = absurd due
solution_due b Idle ticket x due = absurd due
solution_due b (Racing racer) ticket x due = due
solution_due b (Active work) ticket x due = due
solution_due b (Dead how) ticket x due = absurd due

-- a hand that is kept is the next of a rank that works
pub record IsHandOf (b : BookState) (s : State) (number : ℕ) (changes : List Change) : Type 0 where
  pub work : Work
  pub state : s ≡ Active work
  pub next : IsNextHand b work number changes

hand_due : (b : BookState) (s : State) (ticket : Ticket) (number : ℕ) (changes : List Change)
    → IsCurrentDue b s (Hand ticket number changes) Kept → IsHandOf b s number changes
hand_due b Absent ticket number changes due = absurd due
hand_due b Idle ticket number changes due = absurd due
hand_due b (Racing racer) ticket number changes due = absurd (kept_not_in_race due)
hand_due b (Active work) ticket number changes due =
    record { work = work; state = refl; next = due }
hand_due b (Dead how) ticket number changes due = absurd due

-- a Done that is kept is complete
done_due : (b : BookState) (raced : Option Entry) (s : State) (ticket : Ticket) (told : Option ℤ)
    (count : ℕ) (ending : Ending) (c : Current) → current_of raced s ≡ Some c
    → ticket_at s ≡ Some ticket → IsCurrentDue b s (Done ticket told count ending) Kept
    → (c.ticket ≡ ticket) × IsComplete b told count (length c.taken)
done_due b raced Absent ticket told count ending c e at due = absurd due
done_due b raced Idle ticket told count ending c e at due = absurd due
done_due b None (Racing racer) ticket told count ending c e at due = absurd (none-some c e)
done_due b (Some entry) (Racing racer) ticket told count ending c e at due =
    let same = same_Some _ c e in (
      sym (ap (λ (k : Current). k.ticket) same) ∙ same_Some racer.ticket ticket at,
      subst (λ (k : Current). IsComplete b told count (length k.taken)) same due,
    )
done_due b raced (Active work) ticket told count ending c e at due =
    let same = same_Some (current_for work) c e in (
      sym (ap (λ (k : Current). k.ticket) same) ∙ same_Some work.ticket ticket at,
      subst (λ (k : Current). IsComplete b told count (length k.taken)) same due,
    )
done_due b raced (Dead how) ticket told count ending c e at due = absurd due

-- and its box was searched, where it is true
searched_by : (b : BookState) (r : ℕ) (ticket : Ticket) (told : Option ℤ) (count : ℕ)
    (ending : Ending) → IsDue b r (Done ticket told count ending) Kept
    → IsTrueReport b r (Done ticket told count ending)
    → (c : Current) → IsCurrent (ledger_of b) r c
    → IsSearched b.problem b.settings.gap (one_kept b.best) c
searched_by b r ticket told count ending due is_true c h =
    let s = state_at b.ranks r in
    let k = kept_due b s ticket (Done ticket told count ending) due in
    let d = done_due b b.raced s ticket told count ending c (current_is b r c h) k.0 k.1 in
    done_searched b.problem b.settings.gap (one_kept b.best) told c
    (subst (λ o. IsBackedBy b.problem b.settings.gap o told) (sym (one_point b.best)) d.1.backed)
    (is_true c h d.0 d.1.all)

-- what a report that is kept does
kept_book : (b : BookState) (r : ℕ) (report : Report) → r < length b.ranks
    → IsDue b r report Kept → HasRisingChanges report → IsBook b → IsBook (kept r report b)
kept_book b r Ready l due rising h = (ready_keeps b r l).book h
kept_book b r (Solution ticket x) l due rising h =
    let s = state_at b.ranks r in
    let k = kept_due b s ticket (Solution ticket x) due in
    (solution_keeps b r ticket x (solution_due b s ticket x k.1)).book h
kept_book b r (Hand ticket number changes) l due rising h =
    let s = state_at b.ranks r in
    let k = kept_due b s ticket (Hand ticket number changes) due in
    let t = hand_due b s ticket number changes k.1 in
    (hand_keeps_all b r t.work ticket number changes l t.state t.next rising).book h
kept_book b r (Reported ticket count floor) l due rising h =
    (reported_keeps b r ticket count floor l).book h
kept_book b r (Done ticket told count ending) l due rising h =
    done_keeps_book b r ticket told count ending l h
kept_book b r Ended l due rising h = h

kept_sound : (b : BookState) (r : ℕ) (report : Report) → r < length b.ranks
    → IsDue b r report Kept → IsTrueReport b r report → IsBook b → IsSoundBook b
    → IsSoundBook (kept r report b)
kept_sound b r Ready l due is_true h s = (ready_keeps b r l).sound h s
kept_sound b r (Solution ticket x) l due is_true h s =
    let at = state_at b.ranks r in
    let k = kept_due b at ticket (Solution ticket x) due in
    (solution_keeps b r ticket x (solution_due b at ticket x k.1)).sound h s
kept_sound b r (Hand ticket number changes) l due is_true h s =
    let at = state_at b.ranks r in
    let k = kept_due b at ticket (Hand ticket number changes) due in
    let t = hand_due b at ticket number changes k.1 in
    subst (λ (u : State). IsSoundBook (handed_at u r changes b)) (sym t.state)
    (hand_sound b r t.work l t.state number changes t.next s)
kept_sound b r (Reported ticket count floor) l due is_true h s =
    (reported_keeps b r ticket count floor l).sound h s
kept_sound b r (Done ticket told count ending) l due is_true h s =
    done_keeps_sound b r ticket told count ending l
    (searched_by b r ticket told count ending due is_true) h s
kept_sound b r Ended l due is_true h s = s

pub hearing_keeps_book : HearingKeepsBook
hearing_keeps_book b r report answer l due rising h =
    under_answer IsBook (λ k. (counted_keeps k).book) b r report h ((death_keeps b r l).book h)
    answer
    (λ e. kept_book b r report l (subst (IsDue b r report) e due) rising h)

pub hearing_keeps_sound : HearingKeepsSound
hearing_keeps_sound b r report answer l due is_true h s =
    under_answer IsSoundBook (λ k t. t) b r report s ((death_keeps b r l).sound h s) answer
    (λ e. kept_sound b r report l (subst (IsDue b r report) e due) is_true h s)
