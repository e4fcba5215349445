-- What workers at links send is honest, where no ticket was ordered twice.
use Rattle.std.proofs.Common.{◌≡◌, inl, inr, ℕ, ℤ, suc, ◌<◌, ◌≤◌, List, [], ◌∷◌, ◌++◌, Option, Some, None, refl, sym, ap, subst, ◌∙◌, arith}
use Rattle.std.specs.Prelude.{All, Contains}
use Rattle.std.proofs.lemmas.List.Elements.{All-tail, Contains-append_cases, Contains-append_left, Contains-append_right}
use Rattle.ug_rows.specs.declared.area.Interval.{Interval}
use Rattle.ug_rows.specs.Boxes.{IsInside}
use Rattle.ug_problem.specs.Better.{IsGood}
use Rattle.ug_problem.specs.Instances.{Instance, root_of}
use Rattle.ug_nodes.specs.declared.name.Ticket.{Ticket}
use Rattle.ug_nodes.specs.declared.change.Change.{Change}
use Rattle.ug_nodes.specs.Changes.{area_by}
use Rattle.ug_frames.specs.declared.order.Order.{Order}
use Rattle.ug_frames.specs.declared.report.Ending.{Ending}
use Rattle.ug_frames.specs.declared.report.Report.{Report}
use Rattle.ug_frames.specs.declared.report.Report.TheVariants.{Ready, Solution, Hand, State, Done}
use Rattle.ug_frames.specs.declared.report.Report.TheVariants.{Ended}
use Rattle.ug_frames.specs.Reports.{ticket_of}
use Rattle.ug_frames.specs.Honest.{IsInHands}
use Rattle.ug_serve.specs.Actions.{Basis, Action, Came, Took, Told}
use Rattle.ug_serve.specs.Transcripts.{AreSaid, IsBoxTold, IsEndOfTask, IsSaid, IsTranscript, IsUnder, Ordered, box_of, hands_among, last_work, later_of, order_of, reports_in, since_order, since_work, told_since, work_of}
use Rattle.ug_serve.specs.Laws.{AreOnce, IsSetUpFor, WorkersAreHonest, tickets_by, tickets_in, tickets_of, told_by}
use Rattle.ug_serve.proofs.Told.{behind, came_is_no_order, came_is_no_report, first_or, in_front, in_more, same_order, same_report, told_is_no_order, took_is_no_report}

-- nothing is in a list of nothing
pub nothing_in : {X : Type 0} → (x : X) → Contains [] x → ⊥
nothing_in x (k, lt, same) = omega (arith, lt)

abbrev work_or : Ordered → Option Ordered → Ordered
work_or other None = other
work_or other (Some work) = work

pub same_work : (a b : Ordered) → Some a ≡ Some b → a ≡ b
same_work a b same = ap (work_or a) same

abbrev pub work_count : Option Ordered → ℕ
work_count None = 0
work_count (Some work) = 1

abbrev ticket_count : Option Ticket → ℕ
ticket_count None = 0
ticket_count (Some ticket) = 1

abbrev ticket_or : Ticket → Option Ticket → Ticket
ticket_or other None = other
ticket_or other (Some ticket) = ticket

same_ticket : (a b : Ticket) → Some a ≡ Some b → a ≡ b
same_ticket a b same = ap (ticket_or a) same

abbrev changes_in : Report → List Change
changes_in (Hand ticket number changes) = changes
changes_in report = []

-- ---- tickets that stand once

pub once_rest : (xs ys : List Ticket) → AreOnce (xs ++ ys) → AreOnce ys
once_rest [] ys once = once
once_rest (x ∷ xs) ys once = once_rest xs ys once.1

pub once_front : (xs ys : List Ticket) → AreOnce (xs ++ ys) → AreOnce xs
once_front [] ys once = tt
once_front (x ∷ xs) ys once = ((λ there. once.0 (Contains-append_left xs ys x there)), once_front xs ys once.1)

once_apart : (xs ys : List Ticket) (t : Ticket) → AreOnce (xs ++ ys) → Contains xs t → Contains ys t → ⊥
once_apart [] ys t once here there = nothing_in t here
once_apart (x ∷ xs) ys t once here there = elim (first_or x xs t here) [
  | inl same ↦ once.0 (subst (λ (ticket : Ticket). Contains (xs ++ ys) ticket) (sym same)
      (Contains-append_right xs ys t there))
  | inr later ↦ once_apart xs ys t once.1 later there
]

-- ---- orders of work

-- an order of work has its ticket
ticket_taken : (past : List Action) (work : Ordered) → Contains past (Took (order_of work))
    → Contains (tickets_in past) work.ticket
ticket_taken [] work there = absurd (nothing_in _ there)
ticket_taken (Came bytes ∷ past) work there = elim (first_or (Came bytes) past _ there) [
  | inl first ↦ absurd (came_is_no_order bytes (order_of work) first)
  | inr later ↦ ticket_taken past work later
]
ticket_taken (Took order ∷ past) work there = elim (first_or (Took order) past _ there) [
  | inl first ↦ subst (λ (o : Order). Contains (tickets_of (work_of o) ++ tickets_in past) work.ticket)
      (sym (same_order order (order_of work) first)) (in_front work.ticket (tickets_in past))
  | inr later ↦ Contains-append_right (tickets_of (work_of order)) (tickets_in past) work.ticket
      (ticket_taken past work later)
]
ticket_taken (Told report ∷ past) work there = elim (first_or (Told report) past _ there) [
  | inl first ↦ absurd (told_is_no_order report (order_of work) first)
  | inr later ↦ ticket_taken past work later
]

-- and so has the last one
last_by : (own : Option Ordered) (past : List Action) (work : Ordered)
    → later_of own (last_work past) ≡ Some work
    → (last_work past ≡ Some work → Contains (tickets_in past) work.ticket)
    → Contains (tickets_of own ++ tickets_in past) work.ticket
last_by None past work last before = before last
last_by (Some own) past work last before =
    subst (λ (w : Ordered). Contains (own.ticket ∷ tickets_in past) w.ticket) (same_work own work last)
    (in_front own.ticket (tickets_in past))

last_ticket : (past : List Action) (work : Ordered) → last_work past ≡ Some work
    → Contains (tickets_in past) work.ticket
last_ticket [] work last = absurd (omega (arith, ap work_count last))
last_ticket (Came bytes ∷ past) work last = last_ticket past work last
last_ticket (Took order ∷ past) work last = last_by (work_of order) past work last (last_ticket past work)
last_ticket (Told report ∷ past) work last = last_ticket past work last

-- the last order of work is the only one under its ticket
one_by : (own : Option Ordered) (past : List Action) (work other : Ordered)
    → AreOnce (tickets_of own ++ tickets_in past) → later_of own (last_work past) ≡ Some work
    → Contains past (Took (order_of other)) → other.ticket ≡ work.ticket
    → (AreOnce (tickets_in past) → last_work past ≡ Some work → other ≡ work) → other ≡ work
one_by None past work other once last there same before = before once last
one_by (Some own) past work other once last there same before =
    absurd (once.0 (subst (λ (t : Ticket). Contains (tickets_in past) t)
    (same ∙ sym (ap (λ (w : Ordered). w.ticket) (same_work own work last))) (ticket_taken past other there)))

one_order : (past : List Action) (work other : Ordered) → AreOnce (tickets_in past)
    → last_work past ≡ Some work → Contains past (Took (order_of other)) → other.ticket ≡ work.ticket
    → other ≡ work
one_order [] work other once last there same = absurd (nothing_in _ there)
one_order (Came bytes ∷ past) work other once last there same =
    elim (first_or (Came bytes) past _ there) [
      | inl first ↦ absurd (came_is_no_order bytes (order_of other) first)
      | inr later ↦ one_order past work other once last later same
    ]
one_order (Took order ∷ past) work other once last there same =
    elim (first_or (Took order) past _ there) [
      | inl first ↦ same_work other work
          (sym (ap (λ (o : Order). later_of (work_of o) (last_work past)) (same_order order (order_of other) first)) ∙ last)
      | inr later ↦ one_by (work_of order) past work other once last later same
          (λ once last. one_order past work other once last later same)
    ]
one_order (Told report ∷ past) work other once last there same =
    elim (first_or (Told report) past _ there) [
      | inl first ↦ absurd (told_is_no_order report (order_of other) first)
      | inr later ↦ one_order past work other once last later same
    ]

-- ---- reports

none_is_some : (ticket : Ticket) → None ≡ Some ticket → ⊥
none_is_some ticket same = omega (arith, ap ticket_count same)

-- a report that names a ticket is under it
under_named : (basis : Basis) (past : List Action) (report : Report) (ticket : Ticket)
    → ticket_of report ≡ Some ticket → IsSaid basis past report → IsUnder basis past ticket
under_named basis past Ready ticket named said = absurd (none_is_some ticket named)
under_named basis past (Solution own x) ticket named said =
    subst (IsUnder basis past) (same_ticket own ticket named) said.1.under
under_named basis past (Hand own number changes) ticket named said =
    subst (IsUnder basis past) (same_ticket own ticket named) said.1.under
under_named basis past (State own nodes floor) ticket named said =
    subst (IsUnder basis past) (same_ticket own ticket named) said.1.under
under_named basis past (Done own cutoff count ending) ticket named said =
    subst (IsUnder basis past) (same_ticket own ticket named) said.1.under
under_named basis past Ended ticket named said = absurd (none_is_some ticket named)

-- so an order of work had the ticket
pub told_ticket : (basis : Basis) (past : List Action) (report : Report) (ticket : Ticket)
    → ticket_of report ≡ Some ticket → AreSaid basis past → Contains past (Told report)
    → Contains (tickets_in past) ticket
told_ticket basis [] report ticket named said there = absurd (nothing_in _ there)
told_ticket basis (Came bytes ∷ past) report ticket named said there =
    elim (first_or (Came bytes) past _ there) [
      | inl first ↦ absurd (came_is_no_report bytes report first)
      | inr later ↦ told_ticket basis past report ticket named said later
    ]
told_ticket basis (Took order ∷ past) report ticket named said there =
    elim (first_or (Took order) past _ there) [
      | inl first ↦ absurd (took_is_no_report order report first)
      | inr later ↦ Contains-append_right (tickets_of (work_of order)) (tickets_in past) ticket
          (told_ticket basis past report ticket named said later)
    ]
told_ticket basis (Told own ∷ past) report ticket named said there =
    elim (first_or (Told own) past _ there) [
      | inl first ↦
          let u = under_named basis past own ticket
          (ap ticket_of (same_report own report first) ∙ named) said.0 in
          subst (Contains (tickets_in past)) u.its (last_ticket past u.work u.last)
      | inr later ↦ told_ticket basis past report ticket named said.1 later
    ]

-- what was sent is among the reports, and vice versa
pub told_there : (past : List Action) (report : Report) → Contains (reports_in past) report
    → Contains past (Told report)
told_there [] report there = absurd (nothing_in _ there)
told_there (Came bytes ∷ past) report there = behind _ past _ (told_there past report there)
told_there (Took order ∷ past) report there = behind _ past _ (told_there past report there)
told_there (Told own ∷ past) report there = elim (first_or own (reports_in past) report there) [
  | inl first ↦ subst (λ (r : Report). Contains (Told own ∷ past) (Told r)) first (in_front (Told own) past)
  | inr later ↦ behind _ past _ (told_there past report later)
]

since_by : (own : Option Ordered) (order : Order) (past : List Action) (report : Report)
    → Contains (reports_in (since_order own order (since_work past))) report
    → (Contains (told_since past) report → Contains (reports_in past) report)
    → Contains (reports_in past) report
since_by None order past report there before = before there
since_by (Some own) order past report there before = absurd (nothing_in _ there)

since_among : (past : List Action) (report : Report) → Contains (told_since past) report
    → Contains (reports_in past) report
since_among [] report there = there
since_among (Came bytes ∷ past) report there = since_among past report there
since_among (Took order ∷ past) report there =
    since_by (work_of order) order past report there (since_among past report)
since_among (Told own ∷ past) report there = elim (first_or own (told_since past) report there) [
  | inl first ↦ subst (Contains (own ∷ reports_in past)) first (in_front own (reports_in past))
  | inr later ↦ behind own (reports_in past) report (since_among past report later)
]

pub in_among : (root : List Interval) (reports more : List Report) (ticket : Ticket) (count : ℕ) (x : List ℤ)
    → ((report : Report) → Contains reports report → Contains more report)
    → IsInHands root reports ticket count x → IsInHands root more ticket count x
in_among root reports more ticket count x among h = record {
  hand = h.hand;
  before = h.before;
  area = h.area;
  its = record {
    changes = h.its.changes;
    among = among _ h.its.among;
    valid = h.its.valid;
    box = h.its.box;
  };
  inside = h.inside;
}

-- ---- hands

hands_grow : (report : Report) (reports : List Report) → hands_among reports ≤ hands_among (report ∷ reports)
hands_grow Ready reports = omega arith
hands_grow (Solution ticket x) reports = omega arith
hands_grow (Hand ticket number changes) reports = omega arith
hands_grow (State ticket nodes floor) reports = omega arith
hands_grow (Done ticket cutoff count ending) reports = omega arith
hands_grow Ended reports = omega arith

-- a hand has a lower number than how many there are since the last order of work, if it has its
-- ticket
below_by : (own : Option Ordered) (order : Order) (past : List Action) (work : Ordered) (ticket : Ticket)
    (number : ℕ) → AreOnce (tickets_of own ++ tickets_in past) → later_of own (last_work past) ≡ Some work
    → work.ticket ≡ ticket → Contains (tickets_in past) ticket
    → (AreOnce (tickets_in past) → last_work past ≡ Some work → number < hands_among (told_since past))
    → number < hands_among (reports_in (since_order own order (since_work past)))
below_by None order past work ticket number once last same there before = before once last
below_by (Some own) order past work ticket number once last same there before =
    absurd (once.0 (subst (Contains (tickets_in past))
    (sym (ap (λ (w : Ordered). w.ticket) (same_work own work last) ∙ same)) there))

number_below : (basis : Basis) (past : List Action) (work : Ordered) (ticket : Ticket) (number : ℕ)
    (changes : List Change) → AreSaid basis past → AreOnce (tickets_in past)
    → last_work past ≡ Some work → work.ticket ≡ ticket
    → Contains past (Told (Hand ticket number changes)) → number < hands_among (told_since past)
number_below basis [] work ticket number changes said once last same there = absurd (nothing_in _ there)
number_below basis (Came bytes ∷ past) work ticket number changes said once last same there =
    elim (first_or (Came bytes) past _ there) [
      | inl first ↦ absurd (came_is_no_report bytes _ first)
      | inr later ↦ number_below basis past work ticket number changes said once last same later
    ]
number_below basis (Took order ∷ past) work ticket number changes said once last same there =
    elim (first_or (Took order) past _ there) [
      | inl first ↦ absurd (took_is_no_report order _ first)
      | inr later ↦ below_by (work_of order) order past work ticket number once last same
          (told_ticket basis past (Hand ticket number changes) ticket refl said later)
          (λ once last. number_below basis past work ticket number changes said once last same later)
    ]
number_below basis (Told own ∷ past) work ticket number changes said once last same there =
    elim (first_or (Told own) past _ there) [
      | inl first ↦
          let e = same_report own (Hand ticket number changes) first in
          let box = (subst (IsSaid basis past) e said.0).1 in
          subst (λ (r : Report). number < hands_among (r ∷ told_since past)) (sym e) (one_more box.numbered)
      | inr later ↦ grown (number_below basis past work ticket number changes said.1 once last same later)
          (hands_grow own (told_since past))
    ]
  where
    one_more : number ≡ hands_among (told_since past) → number < suc (hands_among (told_since past))
    one_more e = omega (arith, e)

    grown : number < hands_among (told_since past)
        → hands_among (told_since past) ≤ hands_among (own ∷ told_since past)
        → number < hands_among (own ∷ told_since past)
    grown below more = omega (arith, below, more)

-- of two hands with one number the later was sent where the earlier one counted
no_earlier : (basis : Basis) (past : List Action) (ticket : Ticket) (number : ℕ) (changes other : List Change)
    → AreSaid basis past → AreOnce (tickets_in past) → IsBoxTold basis past ticket number changes
    → Contains past (Told (Hand ticket number other)) → ⊥
no_earlier basis past ticket number changes other said once box there =
    let below = number_below basis past box.under.work ticket number other said once box.under.last box.under.its
    there in
    omega (arith, below, box.numbered)

one_hand : (basis : Basis) (past : List Action) (ticket : Ticket) (number : ℕ) (changes other : List Change)
    → AreSaid basis past → AreOnce (tickets_in past) → Contains past (Told (Hand ticket number changes))
    → Contains past (Told (Hand ticket number other)) → changes ≡ other
one_hand basis [] ticket number changes other said once one two = absurd (nothing_in _ one)
one_hand basis (Came bytes ∷ past) ticket number changes other said once one two =
    elim (first_or (Came bytes) past _ one) [
      | inl first ↦ absurd (came_is_no_report bytes _ first)
      | inr later ↦ elim (first_or (Came bytes) past _ two) [
        | inl first ↦ absurd (came_is_no_report bytes _ first)
        | inr there ↦ one_hand basis past ticket number changes other said once later there
      ]
    ]
one_hand basis (Took order ∷ past) ticket number changes other said once one two =
    elim (first_or (Took order) past _ one) [
      | inl first ↦ absurd (took_is_no_report order _ first)
      | inr later ↦ elim (first_or (Took order) past _ two) [
        | inl first ↦ absurd (took_is_no_report order _ first)
        | inr there ↦ one_hand basis past ticket number changes other said
            (once_rest (tickets_of (work_of order)) (tickets_in past) once) later there
      ]
    ]
one_hand basis (Told own ∷ past) ticket number changes other said once one two =
    elim (first_or (Told own) past _ one) [
      | inl first ↦ elim (first_or (Told own) past _ two) [
        | inl second ↦ ap changes_in (sym (same_report own _ first) ∙ same_report own _ second)
        | inr there ↦ absurd (no_earlier basis past ticket number changes other said.1 once
            (subst (IsSaid basis past) (same_report own _ first) said.0).1 there)
      ]
      | inr later ↦ elim (first_or (Told own) past _ two) [
        | inl second ↦ absurd (no_earlier basis past ticket number other changes said.1 once
            (subst (IsSaid basis past) (same_report own _ second) said.0).1 later)
        | inr there ↦ one_hand basis past ticket number changes other said.1 once later there
      ]
    ]

-- ---- ends of tasks

-- under the order of work before it
end_true : (basis : Basis) (past : List Action) (ticket : Ticket) (cutoff : Option ℤ) (count : ℕ)
    (other : Ordered) (x : List ℤ) → AreOnce (tickets_in past)
    → IsEndOfTask basis past ticket cutoff count → Contains past (Took (order_of other))
    → other.ticket ≡ ticket → IsInside (box_of basis other) x → IsGood basis.problem cutoff x
    → IsInHands (root_of basis.problem) (reports_in past) ticket count x
end_true basis past ticket cutoff count other x once ends there its inside good =
    let same = one_order past ends.under.work other once ends.under.last there (its ∙ sym ends.under.its) in
    in_among (root_of basis.problem) (told_since past) (reports_in past) ticket count x (since_among past)
    (ends.searched x (subst (λ (work : Ordered). IsInside (box_of basis work) x) same inside) good)

done_true : (basis : Basis) (past : List Action) (ticket : Ticket) (cutoff : Option ℤ) (count : ℕ)
    (ending : Ending) (other : Ordered) (x : List ℤ) → AreSaid basis past → AreOnce (tickets_in past)
    → Contains past (Told (Done ticket cutoff count ending)) → Contains past (Took (order_of other))
    → other.ticket ≡ ticket → IsInside (box_of basis other) x → IsGood basis.problem cutoff x
    → IsInHands (root_of basis.problem) (reports_in past) ticket count x
done_true basis [] ticket cutoff count ending other x said once done taken its inside good =
    absurd (nothing_in _ done)
done_true basis (Came bytes ∷ past) ticket cutoff count ending other x said once done taken its inside good =
    elim (first_or (Came bytes) past _ done) [
      | inl first ↦ absurd (came_is_no_report bytes _ first)
      | inr later ↦ elim (first_or (Came bytes) past _ taken) [
        | inl first ↦ absurd (came_is_no_order bytes _ first)
        | inr there ↦ done_true basis past ticket cutoff count ending other x said once later there its inside good
      ]
    ]
done_true basis (Took order ∷ past) ticket cutoff count ending other x said once done taken its inside good =
    elim (first_or (Took order) past _ done) [
      | inl first ↦ absurd (took_is_no_report order _ first)
      | inr later ↦ elim (first_or (Took order) past _ taken) [
        | inl first ↦ absurd (once_apart (tickets_of (work_of order)) (tickets_in past) ticket once
            (subst (λ (o : Order). Contains (tickets_of (work_of o)) ticket)
            (sym (same_order order (order_of other) first))
            (subst (Contains (other.ticket ∷ [])) its (in_front other.ticket [])))
            (told_ticket basis past (Done ticket cutoff count ending) ticket refl said later))
        | inr there ↦ done_true basis past ticket cutoff count ending other x said
            (once_rest (tickets_of (work_of order)) (tickets_in past) once) later there its inside good
      ]
    ]
done_true basis (Told own ∷ past) ticket cutoff count ending other x said once done taken its inside good =
    elim (first_or (Told own) past _ taken) [
      | inl first ↦ absurd (told_is_no_order own _ first)
      | inr there ↦ in_more (root_of basis.problem) own (reports_in past) ticket count count x (omega arith)
          (elim (first_or (Told own) past _ done) [
            | inl first ↦ end_true basis past ticket cutoff count other x once
                (subst (IsSaid basis past) (same_report own _ first) said.0).1 there its inside good
            | inr later ↦
                done_true basis past ticket cutoff count ending other x said.1 once later there its inside good
          ])
    ]

-- ---- many workers

-- what a worker sent that was set up with the problem
said_of : (p : Instance) (past : List Action) (report : Report) → IsTranscript past → IsSetUpFor p past
    → Contains (reports_in past) report
    → (gap : ℤ) × AreSaid (record { problem = p; gap = gap }) past
said_of p past report transcript (inl silent) there = absurd (nothing_in _ (subst (λ (rs : List Report). Contains rs report) silent there))
said_of p past report transcript (inr (gap, set)) there = (gap, transcript.said _ set)

ticket_told : (p : Instance) (past : List Action) (report : Report) (ticket : Ticket)
    → ticket_of report ≡ Some ticket → IsTranscript past → IsSetUpFor p past
    → Contains (reports_in past) report → Contains (tickets_in past) ticket
ticket_told p past report ticket named transcript set there =
    let said = said_of p past report transcript set there in
    told_ticket (record { problem = p; gap = said.0 }) past report ticket named said.1
    (told_there past report there)

ticket_by : (p : Instance) (pasts : List (List Action)) (report : Report) (ticket : Ticket)
    → ticket_of report ≡ Some ticket → All IsTranscript pasts → All (IsSetUpFor p) pasts
    → Contains (told_by pasts) report → Contains (tickets_by pasts) ticket
ticket_by p [] report ticket named transcripts sets there = absurd (nothing_in _ there)
ticket_by p (past ∷ pasts) report ticket named transcripts sets there =
    elim (Contains-append_cases (reports_in past) (told_by pasts) report there) [
      | inl own ↦ Contains-append_left (tickets_in past) (tickets_by pasts) ticket
          (ticket_told p past report ticket named (transcripts 0 past (omega arith)) (sets 0 past (omega arith)) own)
      | inr other ↦ Contains-append_right (tickets_in past) (tickets_by pasts) ticket
          (ticket_by p pasts report ticket named (All-tail IsTranscript past pasts transcripts)
          (All-tail (IsSetUpFor p) past pasts sets) other)
    ]

taken_by : (pasts : List (List Action)) (past : List Action) (work : Ordered) → Contains pasts past
    → Contains past (Took (order_of work)) → Contains (tickets_by pasts) work.ticket
taken_by [] past work among taken = absurd (nothing_in _ among)
taken_by (first ∷ pasts) past work among taken = elim (first_or first pasts past among) [
  | inl same ↦ Contains-append_left (tickets_in first) (tickets_by pasts) work.ticket
      (ticket_taken first work (subst (λ (actions : List Action). Contains actions (Took (order_of work))) (sym same) taken))
  | inr later ↦ Contains-append_right (tickets_in first) (tickets_by pasts) work.ticket
      (taken_by pasts past work later taken)
]

hands_by : (p : Instance) (pasts : List (List Action)) (ticket : Ticket) (number : ℕ) (changes other : List Change)
    → All IsTranscript pasts → All (IsSetUpFor p) pasts → AreOnce (tickets_by pasts)
    → Contains (told_by pasts) (Hand ticket number changes)
    → Contains (told_by pasts) (Hand ticket number other) → changes ≡ other
hands_by p [] ticket number changes other transcripts sets once one two = absurd (nothing_in _ one)
hands_by p (past ∷ pasts) ticket number changes other transcripts sets once one two =
    let transcript = transcripts 0 past (omega arith) in
    let set = sets 0 past (omega arith) in
    let rest = All-tail IsTranscript past pasts transcripts in
    let rest_set = All-tail (IsSetUpFor p) past pasts sets in
    elim (Contains-append_cases (reports_in past) (told_by pasts) _ one) [
      | inl here ↦ elim (Contains-append_cases (reports_in past) (told_by pasts) _ two) [
        | inl there ↦
            let said = said_of p past _ transcript set here in
            one_hand (record { problem = p; gap = said.0 }) past ticket number changes other said.1
            (once_front (tickets_in past) (tickets_by pasts) once) (told_there past _ here) (told_there past _ there)
        | inr there ↦ absurd (once_apart (tickets_in past) (tickets_by pasts) ticket once
            (ticket_told p past (Hand ticket number changes) ticket refl transcript set here)
            (ticket_by p pasts (Hand ticket number other) ticket refl rest rest_set there))
      ]
      | inr here ↦ elim (Contains-append_cases (reports_in past) (told_by pasts) _ two) [
        | inl there ↦ absurd (once_apart (tickets_in past) (tickets_by pasts) ticket once
            (ticket_told p past (Hand ticket number other) ticket refl transcript set there)
            (ticket_by p pasts (Hand ticket number changes) ticket refl rest rest_set here))
        | inr there ↦ hands_by p pasts ticket number changes other rest rest_set
            (once_rest (tickets_in past) (tickets_by pasts) once) here there
      ]
    ]

-- the order and the end of the task are of one worker
dones_by : (p : Instance) (pasts : List (List Action)) (ticket : Ticket) (cutoff : Option ℤ) (count : ℕ)
    (ending : Ending) (past : List Action) (work : Ordered) (x : List ℤ) → All IsTranscript pasts
    → All (IsSetUpFor p) pasts → AreOnce (tickets_by pasts)
    → Contains (told_by pasts) (Done ticket cutoff count ending) → Contains pasts past
    → Contains past (Took (order_of work)) → work.ticket ≡ ticket
    → IsInside (area_by (root_of p) work.changes) x → IsGood p cutoff x
    → IsInHands (root_of p) (told_by pasts) ticket count x
dones_by p [] ticket cutoff count ending past work x transcripts sets once done among taken its inside good =
    absurd (nothing_in _ done)
dones_by p (first ∷ pasts) ticket cutoff count ending past work x transcripts sets once done among taken its inside
    good =
    let transcript = transcripts 0 first (omega arith) in
    let set = sets 0 first (omega arith) in
    let rest = All-tail IsTranscript first pasts transcripts in
    let rest_set = All-tail (IsSetUpFor p) first pasts sets in
    elim (Contains-append_cases (reports_in first) (told_by pasts) _ done) [
      | inl here ↦ elim (first_or first pasts past among) [
        | inl same ↦
            let said = said_of p first _ transcript set here in
            let own = subst (λ (actions : List Action). Contains actions (Took (order_of work))) (sym same) taken in
            in_among (root_of p) (reports_in first) (told_by (first ∷ pasts)) ticket count x
            (λ report there. Contains-append_left (reports_in first) (told_by pasts) report there)
            (done_true (record { problem = p; gap = said.0 }) first ticket cutoff count ending work x said.1
            (once_front (tickets_in first) (tickets_by pasts) once) (told_there first _ here) own its inside good)
        | inr later ↦ absurd (once_apart (tickets_in first) (tickets_by pasts) ticket once
            (ticket_told p first (Done ticket cutoff count ending) ticket refl transcript set here)
            (subst (Contains (tickets_by pasts)) its (taken_by pasts past work later taken)))
      ]
      | inr there ↦ elim (first_or first pasts past among) [
        | inl same ↦ absurd (once_apart (tickets_in first) (tickets_by pasts) ticket once
            (subst (Contains (tickets_in first)) its (ticket_taken first work
            (subst (λ (actions : List Action). Contains actions (Took (order_of work))) (sym same) taken)))
            (ticket_by p pasts (Done ticket cutoff count ending) ticket refl rest rest_set there))
        | inr later ↦ in_among (root_of p) (told_by pasts) (told_by (first ∷ pasts)) ticket count x
            (λ report there. Contains-append_right (reports_in first) (told_by pasts) report there)
            (dones_by p pasts ticket cutoff count ending past work x rest rest_set
            (once_rest (tickets_in first) (tickets_by pasts) once) there later taken its inside good)
      ]
    ]

pub workers_are_honest : WorkersAreHonest
workers_are_honest p pasts transcripts sets once = record {
  hands = λ ticket number a b one two.
      one.box ∙ ap (area_by (root_of p))
      (hands_by p pasts ticket number one.changes two.changes transcripts sets once one.among two.among)
      ∙ sym two.box;
  dones = λ ticket cutoff count ending done area given x inside good.
      dones_by p pasts ticket cutoff count ending given.past given.work x transcripts sets once done given.among
      given.taken given.its (subst (λ (box : List Interval). IsInside box x) given.box inside) good;
}
