-- What the last report of a worker of a crew says, by the orders sent to it and the reports
-- received from it.
use Rattle.std.proofs.Common.{◌≡◌, ◌⊎◌, inl, inr, eqb, ℕ, ℤ, ◌+◌, Bool, true, false, List, [], ◌∷◌, ◌++◌, Option, Some, None, refl, sym, ap, subst, ◌∙◌, arith}
use Rattle.std.specs.Prelude.{Contains, IfSome, if◌then◌else◌}
use Rattle.std.proofs.lemmas.Bool.{cases_eq, eq-eqb, ne_eqb}
use Rattle.std.proofs.lemmas.List.Elements.{Contains-append_left}
use Rattle.ug_rows.specs.Boxes.{IsBelow}
use Rattle.ug_problem.specs.Better.{cutoff_of}
use Rattle.ug_problem.specs.Instances.{Instance, root_of}
use Rattle.ug_nodes.specs.declared.name.Ticket.{Ticket}
use Rattle.ug_nodes.specs.declared.change.Change.{Change}
use Rattle.ug_nodes.specs.Changes.{AreChangesOf, area_by}
use Rattle.ug_nodes.proofs.Orders.{same_ticket}
use Rattle.ug_frames.specs.declared.order.Order.{Order}
use Rattle.ug_frames.specs.declared.order.Order.TheVariants.{Incumbent, Winner}
use Rattle.ug_frames.specs.declared.report.Ending.{Ending}
use Rattle.ug_frames.specs.declared.report.Report.{Report}
use Rattle.ug_frames.specs.declared.report.Report.TheVariants.{Ready, Solution, Hand, State, Done}
use Rattle.ug_frames.specs.declared.report.Report.TheVariants.{Ended}
use Rattle.ug_serve.specs.CrewLaws.{reports_of}
use Rattle.ug_serve.specs.Actions.{Basis, Action, Came, Took, Told}
use Rattle.ug_serve.specs.Laws.{AreOnce, tickets_in, tickets_of}
use Rattle.ug_serve.specs.Transcripts.{AreSaid, IsKnown, IsUnder, Ordered, hands_among, last_work, later_of, order_of, reports_in, since_order, since_work, told_since, turned, work_of}
use Rattle.ug_serve.proofs.Crewed.{once_turned, reports_turned, sent_on, taken_of, tickets_sent, took_turned, work_is}
use Rattle.ug_serve.proofs.Honesty.{nothing_in, once_front, same_work, told_there, told_ticket, work_count}
use Rattle.ug_serve.proofs.Spoken.{IsSpoken}
use Rattle.ug_serve.proofs.Told.{behind, came_is_no_report, first_or, in_front, same_report, took_is_no_report}

-- ---- tickets

abbrev pub is_ticket : Ticket → Ticket → Bool
is_ticket a b = (if eqb a.run b.run then eqb a.number b.number else false)

pub is_itself : (a : Ticket) → is_ticket a a ≡ true
is_itself a = rw (eq-eqb a.run a.run refl) (eq-eqb a.number a.number refl)

pub cases_ticket : (a b : Ticket) → (a ≡ b) ⊎ (is_ticket a b ≡ false)
cases_ticket a b = elim (cases_eq a.run b.run) [
  | inl run ↦ elim (cases_eq a.number b.number) [
    | inl number ↦ inl (same_ticket a b run number)
    | inr apart ↦ inr (rw (eq-eqb a.run b.run run) (ne_eqb a.number b.number apart))
  ]
  | inr apart ↦ inr (rw (ne_eqb a.run b.run apart) refl)
]

-- ---- how many hands were sent under a ticket

abbrev pub hands_under : Ticket → List Report → ℕ
hands_under ticket [] = 0
hands_under ticket (Ready ∷ reports) = hands_under ticket reports
hands_under ticket (Solution own x ∷ reports) = hands_under ticket reports
hands_under ticket (Hand own number changes ∷ reports) =
    (if is_ticket own ticket then 1 else 0) + hands_under ticket reports
hands_under ticket (State own nodes floor ∷ reports) = hands_under ticket reports
hands_under ticket (Done own cutoff count ending ∷ reports) = hands_under ticket reports
hands_under ticket (Ended ∷ reports) = hands_under ticket reports

one_first : (n m : ℕ) → n + m ≡ (n + 0) + m
one_first n m = omega arith

hands_first : (ticket : Ticket) (report : Report) (reports : List Report)
    → hands_under ticket (report ∷ reports) ≡ hands_under ticket (report ∷ []) + hands_under ticket reports
hands_first ticket Ready reports = omega arith
hands_first ticket (Solution own x) reports = omega arith
hands_first ticket (Hand own number changes) reports =
    one_first (if is_ticket own ticket then 1 else 0) (hands_under ticket reports)
hands_first ticket (State own nodes floor) reports = omega arith
hands_first ticket (Done own cutoff count ending) reports = omega arith
hands_first ticket Ended reports = omega arith

pub hands_on : (ticket : Ticket) (reports more : List Report)
    → hands_under ticket (reports ++ more) ≡ hands_under ticket reports + hands_under ticket more
hands_on ticket [] more = omega arith
hands_on ticket (report ∷ reports) more = omega (
  arith,
  hands_first ticket report (reports ++ more),
  hands_first ticket report reports,
  hands_on ticket reports more,
)

pub hands_none : (ticket : Ticket) (reports : List Report)
    → ((number : ℕ) (changes : List Change) → Contains reports (Hand ticket number changes) → ⊥)
    → hands_under ticket reports ≡ 0
hands_none ticket [] none = refl
hands_none ticket (Ready ∷ reports) none =
    hands_none ticket reports (λ number changes there. none number changes (behind _ reports _ there))
hands_none ticket (Solution own x ∷ reports) none =
    hands_none ticket reports (λ number changes there. none number changes (behind _ reports _ there))
hands_none ticket (Hand own number changes ∷ reports) none = elim (cases_ticket own ticket) [
  | inl same ↦ absurd (none number changes
      (subst (λ (t : Ticket). Contains (Hand own number changes ∷ reports) (Hand t number changes)) same
      (in_front (Hand own number changes) reports)))
  | inr other ↦
      let rest = hands_none ticket reports (λ n cs there. none n cs (behind _ reports _ there)) in
      rw other (omega (arith, rest))
]
hands_none ticket (State own nodes floor ∷ reports) none =
    hands_none ticket reports (λ number changes there. none number changes (behind _ reports _ there))
hands_none ticket (Done own cutoff count ending ∷ reports) none =
    hands_none ticket reports (λ number changes there. none number changes (behind _ reports _ there))
hands_none ticket (Ended ∷ reports) none =
    hands_none ticket reports (λ number changes there. none number changes (behind _ reports _ there))

hands_turned : (ticket : Ticket) (past actions : List Action)
    → hands_under ticket (reports_in (turned past actions))
    ≡ hands_under ticket (reports_in past) + hands_under ticket (reports_of actions)
hands_turned ticket past [] = omega arith
hands_turned ticket past (Came bytes ∷ actions) = hands_turned ticket (Came bytes ∷ past) actions
hands_turned ticket past (Took order ∷ actions) = hands_turned ticket (Took order ∷ past) actions
hands_turned ticket past (Told own ∷ actions) = omega (
  arith,
  hands_turned ticket (Told own ∷ past) actions,
  hands_first ticket own (reports_in past),
  hands_first ticket own (reports_of actions),
)

-- ---- under the last order of work

-- behind an order: none yet where it is one of work
counted_by : (basis : Basis) (own : Option Ordered) (order : Order) (past : List Action) (work : Ordered)
    → AreSaid basis past → AreOnce (tickets_of own ++ tickets_in past)
    → later_of own (last_work past) ≡ Some work
    → (AreOnce (tickets_in past) → last_work past ≡ Some work
    → hands_among (told_since past) ≡ hands_under work.ticket (reports_in past))
    → hands_among (reports_in (since_order own order (since_work past)))
    ≡ hands_under work.ticket (reports_in past)
counted_by basis None order past work said once last before = before once last
counted_by basis (Some own) order past work said once last before =
    sym (hands_none work.ticket (reports_in past) (λ number changes there. once.0
    (subst (Contains (tickets_in past)) (sym (ap (λ (w : Ordered). w.ticket) (same_work own work last)))
    (told_ticket basis past (Hand work.ticket number changes) work.ticket refl said (told_there past _ there)))))

-- the hands since the last order of work are all that were sent under its ticket
counted : (basis : Basis) (past : List Action) (work : Ordered) → AreSaid basis past
    → AreOnce (tickets_in past) → last_work past ≡ Some work
    → hands_among (told_since past) ≡ hands_under work.ticket (reports_in past)
counted basis [] work said once last = absurd (omega (arith, ap work_count last))
counted basis (Came bytes ∷ past) work said once last = counted basis past work said once last
counted basis (Took order ∷ past) work said once last =
    counted_by basis (work_of order) order past work said once last
    (λ once last. counted basis past work said once last)
counted basis (Told Ready ∷ past) work said once last = counted basis past work said.1 once last
counted basis (Told (Solution own x) ∷ past) work said once last = counted basis past work said.1 once last
counted basis (Told (Hand own number changes) ∷ past) work said once last =
    let under = said.0.1.under in
    let same : own ≡ work.ticket = sym under.its
    ∙ ap (λ (w : Ordered). w.ticket) (same_work under.work work (sym under.last ∙ last)) in
    let yes : is_ticket own work.ticket ≡ true =
    subst (λ (t : Ticket). is_ticket own t ≡ true) same (is_itself own) in
    rw yes (omega (arith, counted basis past work said.1 once last))
counted basis (Told (State own nodes floor) ∷ past) work said once last =
    counted basis past work said.1 once last
counted basis (Told (Done own cutoff count ending) ∷ past) work said once last =
    counted basis past work said.1 once last
counted basis (Told Ended ∷ past) work said once last = counted basis past work said.1 once last

last_by : (order : Order) (own : Option Ordered) (past : List Action) (work : Ordered)
    → ((w : Ordered) → own ≡ Some w → order ≡ order_of w) → later_of own (last_work past) ≡ Some work
    → (last_work past ≡ Some work → Contains past (Took (order_of work)))
    → Contains (Took order ∷ past) (Took (order_of work))
last_by order None past work is last before = behind (Took order) past _ (before last)
last_by order (Some own) past work is last before =
    subst (λ (o : Order). Contains (Took order ∷ past) (Took o))
    (is own refl ∙ ap (λ (w : Ordered). order_of w) (same_work own work last)) (in_front (Took order) past)

last_taken : (past : List Action) (work : Ordered) → last_work past ≡ Some work
    → Contains past (Took (order_of work))
last_taken [] work last = absurd (omega (arith, ap work_count last))
last_taken (Came bytes ∷ past) work last = behind (Came bytes) past _ (last_taken past work last)
last_taken (Took order ∷ past) work last =
    last_by order (work_of order) past work (work_is order) last (last_taken past work)
last_taken (Told report ∷ past) work last = behind (Told report) past _ (last_taken past work last)

-- what came since the order of work came
since_by : (own : Option Ordered) (order : Order) (past : List Action) (action : Action)
    → Contains (since_order own order (since_work past)) action
    → (Contains (since_work past) action → Contains past action) → Contains (Took order ∷ past) action
since_by None order past action there before = elim (first_or (Took order) (since_work past) action there) [
  | inl same ↦ subst (Contains (Took order ∷ past)) same (in_front (Took order) past)
  | inr later ↦ behind (Took order) past action (before later)
]
since_by (Some own) order past action there before = absurd (nothing_in action there)

since_came : (past : List Action) (action : Action) → Contains (since_work past) action → Contains past action
since_came [] action there = there
since_came (Came bytes ∷ past) action there = elim (first_or (Came bytes) (since_work past) action there) [
  | inl same ↦ subst (Contains (Came bytes ∷ past)) same (in_front (Came bytes) past)
  | inr later ↦ behind (Came bytes) past action (since_came past action later)
]
since_came (Took order ∷ past) action there =
    since_by (work_of order) order past action there (since_came past action)
since_came (Told report ∷ past) action there = elim (first_or (Told report) (since_work past) action there) [
  | inl same ↦ subst (Contains (Told report ∷ past)) same (in_front (Told report) past)
  | inr later ↦ behind (Told report) past action (since_came past action later)
]

told_among : (past : List Action) (report : Report) → Contains past (Told report)
    → Contains (reports_in past) report
told_among [] report there = absurd (nothing_in _ there)
told_among (Came bytes ∷ past) report there = elim (first_or (Came bytes) past _ there) [
  | inl same ↦ absurd (came_is_no_report bytes report same)
  | inr later ↦ told_among past report later
]
told_among (Took order ∷ past) report there = elim (first_or (Took order) past _ there) [
  | inl same ↦ absurd (took_is_no_report order report same)
  | inr later ↦ told_among past report later
]
told_among (Told own ∷ past) report there = elim (first_or (Told own) past _ there) [
  | inl same ↦ subst (Contains (own ∷ reports_in past)) (same_report own report same)
      (in_front own (reports_in past))
  | inr later ↦ behind own (reports_in past) report (told_among past report later)
]

-- ---- what a report says

-- an order of work under the ticket was sent
pub record IsUnderSent (sent : List Order) (ticket : Ticket) : Type 0 where
  pub work : Ordered
  pub among : Contains sent (order_of work)
  pub its : work.ticket ≡ ticket

-- A hand sends a box below that of the ticket, under the number of those that were received before.
-- If the order was one of a race, the race was won.
pub record IsHandSpoken (p : Instance) (sent : List Order) (heard : List Report) (ticket : Ticket)
    (number : ℕ) (changes : List Change) : Type 0 where
  pub under : IsUnderSent sent ticket
  pub numbered : number ≡ hands_under ticket heard
  pub valid : AreChangesOf (root_of p) changes
  pub below : IsBelow (area_by (root_of p) changes) (area_by (root_of p) under.work.changes)
  pub won : under.work.race ≡ true → Contains sent (Winner ticket)

-- the cutoff is that of a point that was received under the ticket
pub record IsOfHeard (p : Instance) (gap : ℤ) (heard : List Report) (ticket : Ticket) (cutoff : ℤ)
    : Type 0 where
  pub point : List ℤ
  pub among : Contains heard (Solution ticket point)
  pub its : cutoff ≡ cutoff_of p gap point

-- the cutoff was sent, with the order of work or by itself, or is that of a point received
abbrev pub IsCutoffKnown : Instance → ℤ → List Order → List Report → Ordered → ℤ → Type 0
IsCutoffKnown p gap sent heard work cutoff = (work.cutoff ≡ Some cutoff)
    ⊎ (Contains sent (Incumbent cutoff) ⊎ IsOfHeard p gap heard work.ticket cutoff)

-- A Done counts the hands that were received before, and sends a cutoff that is known.
pub record IsDoneSpoken (p : Instance) (gap : ℤ) (sent : List Order) (heard : List Report) (ticket : Ticket)
    (cutoff : Option ℤ) (count : ℕ) : Type 0 where
  pub under : IsUnderSent sent ticket
  pub counted : count ≡ hands_under ticket heard
  pub known : IfSome cutoff (IsCutoffKnown p gap sent heard under.work)

known_more : (cutoff : Option ℤ) (P Q : ℤ → Type 0) → ((c : ℤ) → P c → Q c) → IfSome cutoff P → IfSome cutoff Q
known_more None P Q more known = tt
known_more (Some c) P Q more known = more c known

module _ (p : Instance) (sent : List Order) (heard : List Report) (report : Report)
    (t : IsSpoken p sent heard report) where
  abbrev past_of : List Action
  past_of = turned [] t.actions

  was_sent : (order : Order) → Contains past_of (Took order) → Contains sent order
  was_sent order there = elim (took_turned [] t.actions order there) [
    | inl none ↦ absurd (nothing_in (Took order) none)
    | inr own ↦ subst (λ (os : List Order). Contains os order) (sym t.taken)
        (Contains-append_left (taken_of t.actions) t.later order own)
  ]

  was_heard : (own : Report) → Contains past_of (Told own) → Contains heard own
  was_heard own there = elim (reports_turned [] t.actions own (told_among past_of own there)) [
    | inl none ↦ absurd (nothing_in own none)
    | inr told ↦ subst (λ (rs : List Report). Contains rs own) t.told told
  ]

  once_past : AreOnce (tickets_sent sent) → AreOnce (tickets_in past_of)
  once_past once =
      once_turned [] t.actions tt
      (once_front (tickets_sent (taken_of t.actions)) (tickets_sent t.later)
      (subst (λ (ts : List Ticket). AreOnce ts) (sent_on (taken_of t.actions) t.later)
      (subst (λ (os : List Order). AreOnce (tickets_sent os)) t.taken once)))
      (λ ticket here there. absurd (nothing_in ticket here))

  abbrev own_basis : Basis
  own_basis = record { problem = p; gap = t.gap }

  abbrev under_sent : (ticket : Ticket) → IsUnder own_basis past_of ticket → IsUnderSent sent ticket
  under_sent ticket u = record {
    work = u.work;
    among = was_sent (order_of u.work) (last_taken past_of u.work u.last);
    its = u.its;
  }

  hands_heard : AreOnce (tickets_sent sent) → (ticket : Ticket) → (u : IsUnder own_basis past_of ticket)
      → hands_among (told_since past_of) ≡ hands_under ticket heard
  hands_heard once ticket u =
      counted own_basis past_of u.work t.before (once_past once) u.last
      ∙ ap (λ (own : Ticket). hands_under own (reports_in past_of)) u.its
      ∙ none_first (hands_turned ticket [] t.actions) ∙ ap (hands_under ticket) t.told
    where
      none_first : hands_under ticket (reports_in past_of)
          ≡ hands_under ticket (reports_in []) + hands_under ticket (reports_of t.actions)
          → hands_under ticket (reports_in past_of) ≡ hands_under ticket (reports_of t.actions)
      none_first same = omega (arith, same)

pub under_spoken : (p : Instance) (sent : List Order) (heard : List Report) (ticket : Ticket) (x : List ℤ)
    → IsSpoken p sent heard (Solution ticket x) → IsUnderSent sent ticket
under_spoken p sent heard ticket x t =
    under_sent p sent heard (Solution ticket x) t ticket t.said.1.under

pub hand_spoken : (p : Instance) (sent : List Order) (heard : List Report) (ticket : Ticket) (number : ℕ)
    (changes : List Change) → AreOnce (tickets_sent sent) → IsSpoken p sent heard (Hand ticket number changes)
    → IsHandSpoken p sent heard ticket number changes
hand_spoken p sent heard ticket number changes once t =
    let own = Hand ticket number changes in
    let box = t.said.1 in
    record {
      under = under_sent p sent heard own t ticket box.under;
      numbered = box.numbered ∙ hands_heard p sent heard own t once ticket box.under;
      valid = box.valid;
      below = box.below;
      won = λ race. was_sent p sent heard own t (Winner ticket)
          (since_came (turned [] t.actions) (Took (Winner ticket)) (box.won race));
    }

pub done_spoken : (p : Instance) (sent : List Order) (heard : List Report) (ticket : Ticket)
    (cutoff : Option ℤ) (count : ℕ) (ending : Ending) → AreOnce (tickets_sent sent)
    → (t : IsSpoken p sent heard (Done ticket cutoff count ending))
    → IsDoneSpoken p t.gap sent heard ticket cutoff count
done_spoken p sent heard ticket cutoff count ending once t =
    let own = Done ticket cutoff count ending in
    let end = t.said.1 in
    let past = turned [] t.actions in
    record {
      under = under_sent p sent heard own t ticket end.under;
      counted = end.counted ∙ hands_heard p sent heard own t once ticket end.under;
      known = known_more cutoff
          (IsKnown (record { problem = p; gap = t.gap }) end.under.work (since_work past))
          (IsCutoffKnown p t.gap sent heard end.under.work)
          (λ c known. elim known [
            | inl ordered ↦ inl ordered
            | inr later ↦ elim later [
              | inl told ↦ inr (inl (was_sent p sent heard own t (Incumbent c)
                  (since_came past (Took (Incumbent c)) told)))
              | inr point ↦ inr (inr (record {
                point = point.point;
                among = was_heard p sent heard own t (Solution end.under.work.ticket point.point)
                    (since_came past (Told (Solution end.under.work.ticket point.point)) point.among);
                its = point.its;
              }))
            ]
          ]) end.known;
    }
