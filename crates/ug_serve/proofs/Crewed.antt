-- That what a crew of workers sent is honest, where no ticket was sent twice.
use Rattle.std.proofs.Common.{◌≡◌, ◌⊎◌, inl, inr, ℕ, ℤ, zero, suc, ◌<◌, List, [], ◌∷◌, ◌++◌, Option, None, Some, false, append_assoc, append-nil, refl, sym, ap, subst, ◌∙◌, arith}
use Rattle.std.specs.Prelude.{All, Contains}
use Rattle.std.specs.List.{flat_map}
use Rattle.std.proofs.lemmas.Bool.{cases_eq}
use Rattle.std.proofs.lemmas.List.Elements.{All-cons, All-nil, Contains-append_cases, Contains-append_left, Contains-append_right}
use Rattle.ug_io.specs.declared.crew.Exchange.{Exchange}
use Rattle.ug_io.specs.declared.link.Said.{Said}
use Rattle.ug_rows.specs.declared.area.Interval.{Interval}
use Rattle.ug_problem.specs.Instances.{Instance, root_of}
use Rattle.ug_nodes.specs.declared.name.Ticket.{Ticket}
use Rattle.ug_nodes.specs.Changes.{area_by}
use Rattle.ug_records.specs.Answers.{IsRecordOf}
use Rattle.ug_frames.specs.declared.order.Order.{Order}
use Rattle.ug_frames.specs.declared.order.Order.TheVariants.{Setup, Work, Incumbent, CollectIn}
use Rattle.ug_frames.specs.declared.order.Order.TheVariants.{CollectOut, Winner, Stop, End}
use Rattle.ug_frames.specs.declared.report.Report.{Report}
use Rattle.ug_frames.specs.declared.report.Report.TheVariants.{Done, Hand}
use Rattle.ug_frames.specs.OrderFrames as orders
use Rattle.ug_frames.specs.ReportFrames as reports
use Rattle.ug_frames.specs.Reports.{ticket_of}
use Rattle.ug_frames.specs.Honest.{AreHonest, IsBoxOfHand}
use Rattle.ug_stream.specs.Streams.{Waiting}
use Rattle.ug_serve.specs.Traces.{IsTrace, ServerState, beginning}
use Rattle.ug_serve.specs.CrewLaws.{AreReportsAt, reports_of}
use Rattle.ug_serve.specs.Actions.{Action, Came, Took, Told}
use Rattle.ug_serve.specs.LinkBytes.{heard_in}
use Rattle.ug_serve.specs.Worked.{AreWorked, IsWorked, told_at}
use Rattle.ug_serve.specs.Transcripts.{IsTranscript, Ordered, order_of, reports_in, turned, work_of}
use Rattle.ug_serve.specs.Laws.{AreOnce, IsOrderedTo, IsSetUpFor, tickets_by, tickets_in, tickets_of, told_by}
use Rattle.ug_serve.proofs.Heard.{front_orders, workers_are_heard}
use Rattle.ug_serve.proofs.Honesty.{in_among, nothing_in, once_front, once_rest, same_work, told_there, told_ticket, work_count, workers_are_honest}
use Rattle.ug_serve.proofs.LinkBytes.{heard_more, heard_still}
use Rattle.ug_serve.proofs.Told.{behind, came_is_no_order, first_or, in_front, same_order, told_is_no_order}
use Rattle.ug_serve.proofs.Wires.{fed_fine, fed_so}

-- ---- what a worker received

-- the orders that were taken, in order
abbrev pub taken_of : List Action → List Order
taken_of [] = []
taken_of (Came bytes ∷ actions) = taken_of actions
taken_of (Took order ∷ actions) = order ∷ taken_of actions
taken_of (Told report ∷ actions) = taken_of actions

pub taken_carried : (a : ServerState) (actions : List Action) (b : ServerState) → IsTrace a actions b
    → All orders.IsCarried (taken_of actions)
taken_carried a [] b same = All-nil orders.IsCarried
taken_carried a (Came bytes ∷ actions) b (mid, does, more) = taken_carried mid actions b more
taken_carried a (Took order ∷ actions) b (mid, does, more) =
    All-cons orders.IsCarried order (taken_of actions) does.given.carried (taken_carried mid actions b more)
taken_carried a (Told report ∷ actions) b (mid, does, more) = taken_carried mid actions b more

-- it is their frames, and what waits
pub heard_parts : (a : ServerState) (actions : List Action) (b : ServerState) (before : List ℕ) → a.waiting.bad ≡ false
    → heard_in a.said ≡ before ++ a.waiting.bytes → IsTrace a actions b
    → heard_in b.said ≡ (before ++ flat_map orders.spelled (taken_of actions)) ++ b.waiting.bytes
heard_parts a [] b before fine same trace =
    ap (λ (s : ServerState). heard_in s.said) trace ∙ same
    ∙ ap (λ (t : List ℕ). t ++ a.waiting.bytes) (sym (append-nil before))
    ∙ ap (λ (s : ServerState). (before ++ []) ++ s.waiting.bytes) (sym trace)
heard_parts a (Came bytes ∷ actions) b before fine same (mid, does, more) =
    heard_parts mid actions b before
    (ap (λ (s : ServerState). s.waiting.bad) does ∙ fed_fine a.waiting bytes fine)
    (ap (λ (s : ServerState). heard_in s.said) does ∙ heard_more a.said bytes
    ∙ ap (λ (t : List ℕ). t ++ bytes) same ∙ append_assoc before a.waiting.bytes bytes
    ∙ ap (λ (w : Waiting). before ++ w.bytes)
    (sym (ap (λ (s : ServerState). s.waiting) does ∙ fed_so a.waiting bytes fine))) more
heard_parts a (Took order ∷ actions) b before fine same (mid, does, more) =
    heard_parts mid actions b (before ++ orders.spelled order) does.given.still
    (ap (λ (s : List Said). heard_in s) does.said ∙ same
    ∙ ap (λ (t : List ℕ). before ++ t) does.given.parts
    ∙ sym (append_assoc before (orders.spelled order) mid.waiting.bytes)) more
    ∙ ap (λ (t : List ℕ). t ++ b.waiting.bytes)
    (append_assoc before (orders.spelled order) (flat_map orders.spelled (taken_of actions)))
heard_parts a (Told report ∷ actions) b before fine same (mid, does, more) =
    heard_parts mid actions b before (ap (λ (w : Waiting). w.bad) does.waiting ∙ fine)
    (ap (λ (s : List Said). heard_in s) does.said ∙ heard_still a.said (reports.spelled report) ∙ same
    ∙ ap (λ (w : Waiting). before ++ w.bytes) (sym does.waiting)) more

-- ---- reports and orders, the latest first

pub reports_turned : (past actions : List Action) (report : Report)
    → Contains (reports_in (turned past actions)) report
    → Contains (reports_in past) report ⊎ Contains (reports_of actions) report
reports_turned past [] report there = inl there
reports_turned past (Came bytes ∷ actions) report there =
    reports_turned (Came bytes ∷ past) actions report there
reports_turned past (Took order ∷ actions) report there =
    reports_turned (Took order ∷ past) actions report there
reports_turned past (Told own ∷ actions) report there =
    elim (reports_turned (Told own ∷ past) actions report there) [
      | inl earlier ↦ elim (first_or own (reports_in past) report earlier) [
        | inl same ↦
            inr (subst (Contains (own ∷ reports_of actions)) same (in_front own (reports_of actions)))
        | inr before ↦ inl before
      ]
      | inr later ↦ inr (behind own (reports_of actions) report later)
    ]

past_kept : (past actions : List Action) (report : Report) → Contains (reports_in past) report
    → Contains (reports_in (turned past actions)) report
past_kept past [] report there = there
past_kept past (Came bytes ∷ actions) report there = past_kept (Came bytes ∷ past) actions report there
past_kept past (Took order ∷ actions) report there = past_kept (Took order ∷ past) actions report there
past_kept past (Told own ∷ actions) report there =
    past_kept (Told own ∷ past) actions report (behind own (reports_in past) report there)

pub told_kept : (past actions : List Action) (report : Report) → Contains (reports_of actions) report
    → Contains (reports_in (turned past actions)) report
told_kept past [] report there = absurd (nothing_in report there)
told_kept past (Came bytes ∷ actions) report there = told_kept (Came bytes ∷ past) actions report there
told_kept past (Took order ∷ actions) report there = told_kept (Took order ∷ past) actions report there
told_kept past (Told own ∷ actions) report there = elim (first_or own (reports_of actions) report there) [
  | inl same ↦ past_kept (Told own ∷ past) actions report
      (subst (Contains (own ∷ reports_in past)) same (in_front own (reports_in past)))
  | inr later ↦ told_kept (Told own ∷ past) actions report later
]

pub took_turned : (past actions : List Action) (order : Order) → Contains (turned past actions) (Took order)
    → Contains past (Took order) ⊎ Contains (taken_of actions) order
took_turned past [] order there = inl there
took_turned past (Came bytes ∷ actions) order there =
    elim (took_turned (Came bytes ∷ past) actions order there) [
      | inl earlier ↦ elim (first_or (Came bytes) past (Took order) earlier) [
        | inl same ↦ absurd (came_is_no_order bytes order same)
        | inr before ↦ inl before
      ]
      | inr later ↦ inr later
    ]
took_turned past (Took own ∷ actions) order there =
    elim (took_turned (Took own ∷ past) actions order there) [
      | inl earlier ↦ elim (first_or (Took own) past (Took order) earlier) [
        | inl same ↦ inr (subst (Contains (own ∷ taken_of actions)) (same_order own order same)
            (in_front own (taken_of actions)))
        | inr before ↦ inl before
      ]
      | inr later ↦ inr (behind own (taken_of actions) order later)
    ]
took_turned past (Told report ∷ actions) order there =
    elim (took_turned (Told report ∷ past) actions order there) [
      | inl earlier ↦ elim (first_or (Told report) past (Took order) earlier) [
        | inl same ↦ absurd (told_is_no_order report order same)
        | inr before ↦ inl before
      ]
      | inr later ↦ inr later
    ]

-- ---- tickets

-- those of the orders of work
abbrev pub tickets_sent : List Order → List Ticket
tickets_sent [] = []
tickets_sent (order ∷ more) = tickets_of (work_of order) ++ tickets_sent more

pub sent_on : (xs ys : List Order) → tickets_sent (xs ++ ys) ≡ tickets_sent xs ++ tickets_sent ys
sent_on [] ys = refl
sent_on (x ∷ xs) ys =
    ap (λ (t : List Ticket). tickets_of (work_of x) ++ t) (sent_on xs ys)
    ∙ sym (append_assoc (tickets_of (work_of x)) (tickets_sent xs) (tickets_sent ys))

once_more : (own : Option Ordered) (ts us : List Ticket) → AreOnce ts → AreOnce (tickets_of own ++ us)
    → ((t : Ticket) → Contains ts t → Contains (tickets_of own ++ us) t → ⊥) → AreOnce (tickets_of own ++ ts)
once_more None ts us once sent apart = once
once_more (Some work) ts us once sent apart =
    ((λ there. apart work.ticket there (in_front work.ticket us)), once)

apart_more : (own : Option Ordered) (ts us : List Ticket) → AreOnce (tickets_of own ++ us)
    → ((t : Ticket) → Contains ts t → Contains (tickets_of own ++ us) t → ⊥)
    → (t : Ticket) → Contains (tickets_of own ++ ts) t → Contains us t → ⊥
apart_more None ts us sent apart t here there = apart t here there
apart_more (Some work) ts us sent apart t here there = elim (first_or work.ticket ts t here) [
  | inl same ↦ sent.0 (subst (Contains us) (sym same) there)
  | inr later ↦ apart t later (behind work.ticket us t there)
]

-- tickets that stand once in the orders taken do so in the actions
pub once_turned : (past actions : List Action) → AreOnce (tickets_in past) → AreOnce (tickets_sent (taken_of actions))
    → ((t : Ticket) → Contains (tickets_in past) t → Contains (tickets_sent (taken_of actions)) t → ⊥)
    → AreOnce (tickets_in (turned past actions))
once_turned past [] once sent apart = once
once_turned past (Came bytes ∷ actions) once sent apart = once_turned (Came bytes ∷ past) actions once sent apart
once_turned past (Took order ∷ actions) once sent apart =
    once_turned (Took order ∷ past) actions
    (once_more (work_of order) (tickets_in past) (tickets_sent (taken_of actions)) once sent apart)
    (once_rest (tickets_of (work_of order)) (tickets_sent (taken_of actions)) sent)
    (apart_more (work_of order) (tickets_in past) (tickets_sent (taken_of actions)) sent apart)
once_turned past (Told report ∷ actions) once sent apart =
    once_turned (Told report ∷ past) actions once sent apart

-- an order that is one of work is that
pub work_is : (order : Order) (work : Ordered) → work_of order ≡ Some work → order ≡ order_of work
work_is (Setup gap bytes) work same = absurd (omega (arith, ap work_count same))
work_is (Work ticket params race cutoff changes) work same =
    ap order_of (same_work (record {
      ticket = ticket;
      params = params;
      race = race;
      cutoff = cutoff;
      changes = changes;
    }) work same)
work_is (Incumbent cutoff) work same = absurd (omega (arith, ap work_count same))
work_is (CollectIn ticket count) work same = absurd (omega (arith, ap work_count same))
work_is (CollectOut ticket) work same = absurd (omega (arith, ap work_count same))
work_is (Winner ticket) work same = absurd (omega (arith, ap work_count same))
work_is (Stop ticket) work same = absurd (omega (arith, ap work_count same))
work_is End work same = absurd (omega (arith, ap work_count same))

-- an order of work under the ticket was taken
record IsTakenUnder (past : List Action) (ticket : Ticket) : Type 0 where
  work : Ordered
  taken : Contains past (Took (order_of work))
  its : work.ticket ≡ ticket

under_more : (action : Action) (past : List Action) (ticket : Ticket) → IsTakenUnder past ticket
    → IsTakenUnder (action ∷ past) ticket
under_more action past ticket t = record {
  work = t.work;
  taken = behind action past _ t.taken;
  its = t.its;
}

taken_by : (order : Order) (own : Option Ordered) (past : List Action) (ticket : Ticket)
    → ((work : Ordered) → own ≡ Some work → order ≡ order_of work)
    → Contains (tickets_of own ++ tickets_in past) ticket
    → (Contains (tickets_in past) ticket → IsTakenUnder past ticket) → IsTakenUnder (Took order ∷ past) ticket
taken_by order None past ticket is there before = under_more (Took order) past ticket (before there)
taken_by order (Some work) past ticket is there before =
    elim (first_or work.ticket (tickets_in past) ticket there) [
      | inl same ↦ record {
        work = work;
        taken = subst (λ (o : Order). Contains (Took order ∷ past) (Took o)) (is work refl) (in_front (Took order) past);
        its = same;
      }
      | inr later ↦ under_more (Took order) past ticket (before later)
    ]

taken_under : (past : List Action) (ticket : Ticket) → Contains (tickets_in past) ticket
    → IsTakenUnder past ticket
taken_under [] ticket there = absurd (nothing_in ticket there)
taken_under (Came bytes ∷ past) ticket there =
    under_more (Came bytes) past ticket (taken_under past ticket there)
taken_under (Took order ∷ past) ticket there =
    taken_by order (work_of order) past ticket (work_is order) there (taken_under past ticket)
taken_under (Told report ∷ past) ticket there =
    under_more (Told report) past ticket (taken_under past ticket there)

-- ---- the worker of a rank

-- the bytes that were sent to the rank are the frames of these orders, of which each first one is
-- of this problem
pub record IsSentTo (p : Instance) (said : List Exchange) (rank : ℕ) (sent : List Order) : Type 0 where
  pub carried : All orders.IsCarried sent
  pub bytes : told_at rank said ≡ flat_map orders.spelled sent
  pub records : (gap : ℤ) (bytes : List ℕ) → Contains sent (Setup gap bytes) → IsRecordOf bytes p

-- a worker's actions, the latest first, took some of these orders, and sent these reports and no
-- others
record IsPast (p : Instance) (sent : List Order) (heard : List Report) (past : List Action) : Type 0 where
  transcript : IsTranscript past
  set_up : IsSetUpFor p past
  taken : (order : Order) → Contains past (Took order) → Contains sent order
  once : AreOnce (tickets_sent sent) → AreOnce (tickets_in past)
  told : (report : Report) → Contains (reports_in past) report → Contains heard report
  all : (report : Report) → Contains heard report → Contains (reports_in past) report

past_is : (p : Instance) (said : List Exchange) (rank : ℕ) (sent : List Order) (heard : List Report)
    → IsWorked said rank → IsSentTo p said rank sent → AreReportsAt said rank heard
    → (past : List Action) × IsPast p sent heard past
past_is p said rank sent heard w s h =
    let t = workers_are_heard said rank heard w h in
    let actions = t.0 in
    let front = front_orders (taken_of actions) sent (t.1.now.waiting.bytes ++ t.1.ahead)
    (taken_carried beginning actions t.1.now t.1.trace) s.carried
    (sym (append_assoc (flat_map orders.spelled (taken_of actions)) t.1.now.waiting.bytes t.1.ahead)
    ∙ ap (λ (b : List ℕ). b ++ t.1.ahead)
    (sym (heard_parts beginning actions t.1.now [] refl refl t.1.trace))
    ∙ sym t.1.came ∙ s.bytes) in
    let taken : (order : Order) → Contains (turned [] actions) (Took order) → Contains sent order =
    (λ order there. elim (took_turned [] actions order there) [
      | inl none ↦ absurd (nothing_in (Took order) none)
      | inr own ↦ subst (λ (os : List Order). Contains os order) (sym front.1)
          (Contains-append_left (taken_of actions) front.0 order own)
    ]) in (
      turned [] actions,
      record {
        transcript = t.1.transcript;
        set_up = elim t.1.transcript.set_up [
          | inl none ↦ inl none
          | inr some ↦ inr (
            some.0.gap,
            record {
              bytes = some.1.bytes;
              among = some.1.among;
              its = s.records some.0.gap some.1.bytes
                  (taken (Setup some.0.gap some.1.bytes) some.1.among);
            },
          )
        ];
        taken = taken;
        once = λ once. once_turned [] actions tt
            (once_front (tickets_sent (taken_of actions)) (tickets_sent front.0)
            (subst (λ (ts : List Ticket). AreOnce ts) (sent_on (taken_of actions) front.0)
            (subst (λ (os : List Order). AreOnce (tickets_sent os)) front.1 once)))
            (λ ticket here there. absurd (nothing_in ticket here));
        told = λ report there. elim (reports_turned [] actions report there) [
          | inl none ↦ absurd (nothing_in report none)
          | inr own ↦ subst (λ (rs : List Report). Contains rs report) t.1.told own
        ];
        all = λ report there. told_kept [] actions report
            (subst (λ (rs : List Report). Contains rs report) (sym t.1.told) there);
      },
    )

-- ---- all ranks

-- of those below n
abbrev pasts_of : ℕ → (ℕ → List Action) → List (List Action)
pasts_of zero past = []
pasts_of (suc n) past = past n ∷ pasts_of n past

all_pasts : (P : List Action → Type 0) (n : ℕ) (past : ℕ → List Action) → ((rank : ℕ) → P (past rank))
    → All P (pasts_of n past)
all_pasts P zero past each = All-nil P
all_pasts P (suc n) past each = All-cons P (past n) (pasts_of n past) (each n) (all_pasts P n past each)

past_there : (n : ℕ) (past : ℕ → List Action) (rank : ℕ) → rank < n → Contains (pasts_of n past) (past rank)
past_there zero past rank below = absurd (omega (arith, below))
past_there (suc n) past rank below = elim (cases_eq rank n) [
  | inl same ↦ subst (λ (r : ℕ). Contains (past n ∷ pasts_of n past) (past r)) (sym same)
      (in_front (past n) (pasts_of n past))
  | inr other ↦ behind (past n) (pasts_of n past) (past rank)
      (past_there n past rank (omega (arith, below, other)))
]

report_below : (n : ℕ) (past : ℕ → List Action) (report : Report)
    → Contains (told_by (pasts_of n past)) report
    → (rank : ℕ) × (rank < n) × Contains (reports_in (past rank)) report
report_below zero past report there = absurd (nothing_in report there)
report_below (suc n) past report there =
    elim (Contains-append_cases (reports_in (past n)) (told_by (pasts_of n past)) report there) [
      | inl here ↦ (n, omega arith, here)
      | inr later ↦ let t = report_below n past report later in (t.0, omega (arith, t.1), t.2)
    ]

below_report : (n : ℕ) (past : ℕ → List Action) (report : Report) (rank : ℕ) → rank < n
    → Contains (reports_in (past rank)) report → Contains (told_by (pasts_of n past)) report
below_report zero past report rank below there = absurd (omega (arith, below))
below_report (suc n) past report rank below there = elim (cases_eq rank n) [
  | inl same ↦ Contains-append_left (reports_in (past n)) (told_by (pasts_of n past)) report
      (subst (λ (r : ℕ). Contains (reports_in (past r)) report) same there)
  | inr other ↦ Contains-append_right (reports_in (past n)) (told_by (pasts_of n past)) report
      (below_report n past report rank (omega (arith, below, other)) there)
]

ticket_below : (n : ℕ) (past : ℕ → List Action) (ticket : Ticket)
    → Contains (tickets_by (pasts_of n past)) ticket
    → (rank : ℕ) × (rank < n) × Contains (tickets_in (past rank)) ticket
ticket_below zero past ticket there = absurd (nothing_in ticket there)
ticket_below (suc n) past ticket there =
    elim (Contains-append_cases (tickets_in (past n)) (tickets_by (pasts_of n past)) ticket there) [
      | inl here ↦ (n, omega arith, here)
      | inr later ↦ let t = ticket_below n past ticket later in (t.0, omega (arith, t.1), t.2)
    ]

once_both : (xs ys : List Ticket) → AreOnce xs → AreOnce ys
    → ((t : Ticket) → Contains xs t → Contains ys t → ⊥) → AreOnce (xs ++ ys)
once_both [] ys one two apart = two
once_both (x ∷ xs) ys one two apart = (
  (λ there. elim (Contains-append_cases xs ys x there) [
    | inl here ↦ one.0 here
    | inr later ↦ apart x (in_front x xs) later
  ]),
  once_both xs ys one.1 two (λ t here there. apart t (behind x xs t here) there),
)

once_all : (n : ℕ) (past : ℕ → List Action) → ((rank : ℕ) → AreOnce (tickets_in (past rank)))
    → ((q r : ℕ) (ticket : Ticket) → Contains (tickets_in (past q)) ticket
    → Contains (tickets_in (past r)) ticket → q ≡ r)
    → AreOnce (tickets_by (pasts_of n past))
once_all zero past each one = tt
once_all (suc n) past each one =
    once_both (tickets_in (past n)) (tickets_by (pasts_of n past)) (each n) (once_all n past each one)
    (λ ticket here there.
    let t = ticket_below n past ticket there in
    absurd (omega (arith, t.1, one n t.0 ticket here t.2)))

-- What was received from all ranks, where each was sent these orders and sent these reports.
module _ (p : Instance) (said : List Exchange) (n : ℕ) (sent : ℕ → List Order) (heard : ℕ → List Report)
    (worked : AreWorked said) (to : (rank : ℕ) → IsSentTo p said rank (sent rank))
    (from : (rank : ℕ) → AreReportsAt said rank (heard rank))
    (once : (rank : ℕ) → AreOnce (tickets_sent (sent rank)))
    (apart : (q r : ℕ) (a b : Ordered) → Contains (sent q) (order_of a) → Contains (sent r) (order_of b)
    → a.ticket ≡ b.ticket → q ≡ r)
    (all : List Report)
    (whose : (report : Report) → Contains all report
    → (rank : ℕ) × (rank < n) × Contains (heard rank) report)
    (among : (rank : ℕ) (report : Report) → Contains (heard rank) report → Contains all report) where
  one : (rank : ℕ) → (past : List Action) × IsPast p (sent rank) (heard rank) past
  one rank = past_is p said rank (sent rank) (heard rank) (worked rank) (to rank) (from rank)

  abbrev past : ℕ → List Action
  past rank = (one rank).0

  is : (rank : ℕ) → IsPast p (sent rank) (heard rank) (past rank)
  is rank = (one rank).1

  same_rank : (q r : ℕ) (ticket : Ticket) → Contains (tickets_in (past q)) ticket
      → Contains (tickets_in (past r)) ticket → q ≡ r
  same_rank q r ticket here there =
      let a = taken_under (past q) ticket here in
      let b = taken_under (past r) ticket there in
      apart q r a.work b.work ((is q).taken (order_of a.work) a.taken) ((is r).taken (order_of b.work) b.taken)
      (a.its ∙ sym b.its)

  honest : AreHonest p (IsOrderedTo p (pasts_of n past)) (told_by (pasts_of n past))
  honest = workers_are_honest p (pasts_of n past) (all_pasts IsTranscript n past (λ rank. (is rank).transcript))
      (all_pasts (IsSetUpFor p) n past (λ rank. (is rank).set_up))
      (once_all n past (λ rank. (is rank).once (once rank)) same_rank)

  into : (report : Report) → Contains all report → Contains (told_by (pasts_of n past)) report
  into report there =
      let t = whose report there in
      below_report n past report t.0 t.1 ((is t.0).all report t.2)

  out : (report : Report) → Contains (told_by (pasts_of n past)) report → Contains all report
  out report there =
      let t = report_below n past report there in
      among t.0 report ((is t.0).told report t.2)

  box_into : (ticket : Ticket) (hand : ℕ) (area : List Interval)
      → IsBoxOfHand (root_of p) all ticket hand area
      → IsBoxOfHand (root_of p) (told_by (pasts_of n past)) ticket hand area
  box_into ticket hand area b = record {
    changes = b.changes;
    among = into (Hand ticket hand b.changes) b.among;
    valid = b.valid;
    box = b.box;
  }

  -- an order of work was taken under the ticket of a report that names it
  under : (rank : ℕ) (report : Report) (ticket : Ticket) → ticket_of report ≡ Some ticket
      → Contains (heard rank) report → IsTakenUnder (past rank) ticket
  under rank report ticket named there =
      let own = (is rank).all report there in
      elim (is rank).set_up [
        | inl none ↦ absurd (nothing_in report (subst (λ (rs : List Report). Contains rs report) none own))
        | inr some ↦ taken_under (past rank) ticket
            (told_ticket (record { problem = p; gap = some.0 }) (past rank) report ticket named
            ((is rank).transcript.said (record { problem = p; gap = some.0 }) some.1)
            (told_there (past rank) report own))
      ]

  -- it is honest of the tickets that were sent with these boxes
  pub crew_honest : (Given : Ticket → List Interval → Type 0)
      → ((rank : ℕ) (work : Ordered) (area : List Interval) → Contains (sent rank) (order_of work)
      → Given work.ticket area → area ≡ area_by (root_of p) work.changes)
      → AreHonest p Given all
  crew_honest Given its = record {
    hands = λ ticket hand a b first second.
        honest.hands ticket hand a b (box_into ticket hand a first) (box_into ticket hand b second);
    dones = λ ticket cutoff count ending there area given x inside good.
        let t = whose (Done ticket cutoff count ending) there in
        let u = under t.0 (Done ticket cutoff count ending) ticket refl t.2 in
        let box = its t.0 u.work area ((is t.0).taken (order_of u.work) u.taken)
        (subst (λ (own : Ticket). Given own area) (sym u.its) given) in
        in_among (root_of p) (told_by (pasts_of n past)) all ticket count x out
        (honest.dones ticket cutoff count ending (into (Done ticket cutoff count ending) there) area
        (record {
          past = past t.0;
          among = past_there n past t.0 t.1;
          work = u.work;
          taken = u.taken;
          its = u.its;
          box = box;
        }) x inside good);
  }
