-- Reports received from a crew of workers are honest.
use Rattle.std.proofs.Common.{◌≡◌, inl, inr, eqb, ℕ, ℤ, ◌+◌, ◌<◌, ◌≤◌, Bool, true, false, List, [], ◌∷◌, ◌++◌, append_assoc, append-nil, Option, Some, None, refl, sym, ap, subst, ◌∙◌, arith}
use Rattle.std.specs.Prelude.{Contains, replicate, slice_index_or}
use Rattle.std.specs.Option.{option_to_list}
use Rattle.std.proofs.lemmas.Bool.{cases_lt, eq-eqb}
use Rattle.std.proofs.lemmas.List.{get_or-replicate, get_or_past, length-replicate}
use Rattle.std.proofs.lemmas.List.Elements.{All-nil, Contains-append_cases, Contains-append_left, Contains-append_right}
use Rattle.ug_io.specs.declared.crew.Exchange.{Exchange}
use Rattle.ug_rows.specs.declared.area.Interval.{Interval}
use Rattle.ug_problem.specs.Instances.{Instance, root_of}
use Rattle.ug_nodes.specs.declared.name.Ticket.{Ticket}
use Rattle.ug_nodes.specs.Changes.{area_by}
use Rattle.ug_frames.specs.declared.order.Order.{Order}
use Rattle.ug_frames.specs.declared.order.Order.TheVariants.{Setup, Work as WorkOrder, Incumbent, CollectIn}
use Rattle.ug_frames.specs.declared.order.Order.TheVariants.{CollectOut, Winner, Stop, End}
use Rattle.ug_frames.specs.declared.report.Report.{Report}
use Rattle.ug_frames.specs.ReportFrames as reports
use Rattle.ug_frames.specs.Honest.{AreHonest}
use Rattle.ug_stream.specs.Streams.{Waiting, first}
use Rattle.ug_rules.specs.declared.told.Told.{Told}
use Rattle.ug_rules.specs.State.{BookState}
use Rattle.ug_coord.specs.Actions.{Broke, Came, Closed, Decided, Action, NextState, Halted, IsTrace, Launched, Lost, Passed}
use Rattle.ug_coord.specs.Actions.{Sent, SetUp, CoordinatorState, Took, Unclosed, Unfed, Unread, Unsent, Unwritten}
use Rattle.ug_coord.specs.Actions.{Kept as Saved}
use Rattle.ug_coord.specs.Ends.{ranks_of}
use Rattle.ug_coord.specs.Coordinators.{beginning}
use Rattle.ug_coord.proofs.Coursing.{trace_more}
use Rattle.ug_serve.specs.CrewLaws.{AreReportsAt}
use Rattle.ug_serve.specs.Worked.{AreAlwaysWorked, AreWorked}
use Rattle.ug_serve.specs.Transcripts.{Ordered, order_of, work_of}
use Rattle.ug_serve.specs.Laws.{AreOnce}
use Rattle.ug_serve.proofs.Crewed.{IsSentTo, crew_honest, tickets_sent}
use Rattle.ug_serve.proofs.Honesty.{nothing_in, same_work}
use Rattle.ug_serve.proofs.Told.{first_or, in_front}
use Rattle.ug_laws.specs.Honest.{IsGivenWith}
use Rattle.ug_laws.specs.Coordinators.{IsHonestSo, Past, StaysHonest, after, honest_at, nothing}
use Rattle.ug_laws.specs.Workers.{CoordinatorsOfWorkersLoseNothing, IsUnused}
use Rattle.ug_laws.proofs.Coordinated.{coordinators_lose_nothing}
use Rattle.ug_laws.proofs.Numbered.{Grows, IsNumbered, MayCome, after_up, after_less, heard_grows, number_after}
use Rattle.ug_laws.proofs.Traffic.{Delivery, Fits, IsRead, IsTraffic, from_rank, heard_of, left_in, left_of, only, only_there, orders_to, report_in, reports_from, taken_in, traffic_is}

-- ---- orders whose numbers rise

above : (a : ℕ) (ts : List Told) (b rank : ℕ) (work : Ordered) → IsNumbered a ts b
    → Contains ts (record { rank = rank; order = order_of work }) → a < work.ticket.number
above a [] b rank work h there = absurd (nothing_in _ there)
above a (t ∷ ts) b rank work h there = elim (first_or t ts _ there) [
  | inl same ↦ subst (λ (u : Told). MayCome a u.order) same h.0
  | inr later ↦ omega (arith, after_up a t.order h.0, above (number_after a t.order) ts b rank work h.1 later)
]

-- work is ordered once under a ticket
one_told : (a : ℕ) (ts : List Told) (b q r : ℕ) (v w : Ordered) → IsNumbered a ts b
    → Contains ts (record { rank = q; order = order_of v }) → Contains ts (record { rank = r; order = order_of w })
    → v.ticket.number ≡ w.ticket.number
    → ◌≡◌ {A = Told} (record { rank = q; order = order_of v }) (record { rank = r; order = order_of w })
one_told a [] b q r v w h one two same = absurd (nothing_in _ one)
one_told a (t ∷ ts) b q r v w h one two same = elim (first_or t ts _ one) [
  | inl s ↦ elim (first_or t ts _ two) [
    | inl u ↦ sym s ∙ u
    | inr later ↦ absurd (omega (
      arith,
      above (number_after a t.order) ts b r w h.1 later,
      ap (λ (x : Told). number_after a x.order) s,
      same,
    ))
  ]
  | inr earlier ↦ elim (first_or t ts _ two) [
    | inl u ↦ absurd (omega (
      arith,
      above (number_after a t.order) ts b q v h.1 earlier,
      ap (λ (x : Told). number_after a x.order) u,
      same,
    ))
    | inr later ↦ one_told (number_after a t.order) ts b q r v w h.1 earlier later same
  ]
]

-- none is one that comes first
no_setup : (a : ℕ) (ts : List Told) (b rank : ℕ) (gap : ℤ) (bytes : List ℕ) → IsNumbered a ts b
    → Contains ts (record { rank = rank; order = Setup gap bytes }) → ⊥
no_setup a [] b rank gap bytes h there = nothing_in _ there
no_setup a (t ∷ ts) b rank gap bytes h there = elim (first_or t ts _ there) [
  | inl same ↦ subst (λ (u : Told). MayCome a u.order) same h.0
  | inr later ↦ no_setup (number_after a t.order) ts b rank gap bytes h.1 later
]

-- nor the end
no_end : (a : ℕ) (ts : List Told) (b rank : ℕ) → IsNumbered a ts b
    → Contains ts (record { rank = rank; order = End }) → ⊥
no_end a [] b rank h there = nothing_in _ there
no_end a (t ∷ ts) b rank h there = elim (first_or t ts _ there) [
  | inl same ↦ subst (λ (u : Told). MayCome a u.order) same h.0
  | inr later ↦ no_end (number_after a t.order) ts b rank h.1 later
]

front_numbered : (a : ℕ) (ts us : List Told) (c : ℕ) → IsNumbered a (ts ++ us) c
    → (b : ℕ) × IsNumbered a ts b
front_numbered a [] us c h = (a, omega arith)
front_numbered a (t ∷ ts) us c h =
    let rest = front_numbered (number_after a t.order) ts us c h.1 in (rest.0, (h.0, rest.1))

-- ---- those of one rank

abbrev MayBeSent : ℕ → Order → Type 0
MayBeSent from (WorkOrder ticket params race cutoff changes) = from < ticket.number
MayBeSent from order = Unit {0}

abbrev AreRising : ℕ → List Order → Type 0
AreRising from [] = Unit {0}
AreRising from (order ∷ more) = MayBeSent from order × AreRising (number_after from order) more

sent_less : (a b : ℕ) (order : Order) → a ≤ b → MayBeSent b order → MayBeSent a order
sent_less a b (Setup gap bytes) less h = h
sent_less a b (WorkOrder ticket params race cutoff changes) less h = omega (arith, less, h)
sent_less a b (Incumbent cutoff) less h = h
sent_less a b (CollectIn ticket count) less h = h
sent_less a b (CollectOut ticket) less h = h
sent_less a b (Winner ticket) less h = h
sent_less a b (Stop ticket) less h = h
sent_less a b End less h = h

may_be_sent : (a : ℕ) (order : Order) → MayCome a order → MayBeSent a order
may_be_sent a (Setup gap bytes) h = tt
may_be_sent a (WorkOrder ticket params race cutoff changes) h = h
may_be_sent a (Incumbent cutoff) h = h
may_be_sent a (CollectIn ticket count) h = h
may_be_sent a (CollectOut ticket) h = h
may_be_sent a (Winner ticket) h = h
may_be_sent a (Stop ticket) h = h
may_be_sent a End h = tt

rising_less : (a b : ℕ) (os : List Order) → a ≤ b → AreRising b os → AreRising a os
rising_less a b [] less h = tt
rising_less a b (o ∷ os) less h = (
  sent_less a b o less h.0,
  rising_less (number_after a o) (number_after b o) os (after_less a b o less) h.1,
)

only_rising : (b : Bool) (a : ℕ) (order : Order) (os : List Order) → MayBeSent a order
    → AreRising (number_after a order) os → AreRising a os → AreRising a (only b order ++ os)
only_rising true a order os may more all = (may, more)
only_rising false a order os may more all = all

left_rising : (a b : ℕ) (order : Order) (os : List Order) → MayCome a order
    → AreRising (number_after a order) os → AreRising a os
left_rising a b order os may more = rising_less a (number_after a order) os (after_up a order may) more

rising_to : (gap : ℤ) (r : ℕ) (actions : List Action) (a b : ℕ) → IsNumbered a (left_of actions) b
    → AreRising a (orders_to gap r actions)
rising_to gap r [] a b h = tt
rising_to gap r (Launched q ∷ actions) a b h = rising_to gap r actions a b h
rising_to gap r (SetUp q bytes ∷ actions) a b h =
    let rest = rising_to gap r actions a b h in
    only_rising (eqb q r) a (Setup gap bytes) (orders_to gap r actions) tt rest rest
rising_to gap r (Closed q ∷ actions) a b h =
    let rest = rising_to gap r actions a b h in
    only_rising (eqb q r) a End (orders_to gap r actions) tt rest rest
rising_to gap r (Came q bytes ∷ actions) a b h = rising_to gap r actions a b h
rising_to gap r (Took q report answer ∷ actions) a b h = rising_to gap r actions a b h
rising_to gap r (Lost q cause ∷ actions) a b h = rising_to gap r actions a b h
rising_to gap r (Decided ∷ actions) a b h = rising_to gap r actions a b h
rising_to gap r (Sent q order ∷ actions) a b h =
    let rest = rising_to gap r actions (number_after a order) b h.1 in
    only_rising (eqb q r) a order (orders_to gap r actions) (may_be_sent a order h.0) rest
    (left_rising a b order (orders_to gap r actions) h.0 rest)
rising_to gap r (Unsent q order ∷ actions) a b h =
    left_rising a b order (orders_to gap r actions) h.0 (rising_to gap r actions (number_after a order) b h.1)
rising_to gap r (Passed q order ∷ actions) a b h =
    left_rising a b order (orders_to gap r actions) h.0 (rising_to gap r actions (number_after a order) b h.1)
rising_to gap r (Broke ∷ actions) a b h = rising_to gap r actions a b h
rising_to gap r (Unclosed q ∷ actions) a b h = rising_to gap r actions a b h
rising_to gap r (Halted steps ∷ actions) a b h = rising_to gap r actions a b h
rising_to gap r (Unwritten q order ∷ actions) a b h =
    left_rising a b order (orders_to gap r actions) h.0 (rising_to gap r actions (number_after a order) b h.1)
rising_to gap r (Unfed q bytes ∷ actions) a b h = rising_to gap r actions a b h
rising_to gap r (Unread ∷ actions) a b h = rising_to gap r actions a b h
rising_to gap r (Saved ∷ actions) a b h = rising_to gap r actions a b h

rising_above : (a : ℕ) (os : List Order) (t : Ticket) → AreRising a os → Contains (tickets_sent os) t
    → a < t.number
rising_above a [] t h there = absurd (nothing_in t there)
rising_above a (Setup gap bytes ∷ os) t h there = rising_above a os t h.1 there
rising_above a (WorkOrder ticket params race cutoff changes ∷ os) t h there =
    elim (first_or ticket (tickets_sent os) t there) [
      | inl same ↦ subst (λ (k : Ticket). a < k.number) same h.0
      | inr later ↦ omega (arith, h.0, rising_above ticket.number os t h.1 later)
    ]
rising_above a (Incumbent cutoff ∷ os) t h there = rising_above a os t h.1 there
rising_above a (CollectIn ticket count ∷ os) t h there = rising_above a os t h.1 there
rising_above a (CollectOut ticket ∷ os) t h there = rising_above a os t h.1 there
rising_above a (Winner ticket ∷ os) t h there = rising_above a os t h.1 there
rising_above a (Stop ticket ∷ os) t h there = rising_above a os t h.1 there
rising_above a (End ∷ os) t h there = rising_above a os t h.1 there

rising_once : (a : ℕ) (os : List Order) → AreRising a os → AreOnce (tickets_sent os)
rising_once a [] h = tt
rising_once a (Setup gap bytes ∷ os) h = rising_once a os h.1
rising_once a (WorkOrder ticket params race cutoff changes ∷ os) h = (
  (λ there. omega (arith, rising_above ticket.number os ticket h.1 there)),
  rising_once ticket.number os h.1,
)
rising_once a (Incumbent cutoff ∷ os) h = rising_once a os h.1
rising_once a (CollectIn ticket count ∷ os) h = rising_once a os h.1
rising_once a (CollectOut ticket ∷ os) h = rising_once a os h.1
rising_once a (Winner ticket ∷ os) h = rising_once a os h.1
rising_once a (Stop ticket ∷ os) h = rising_once a os h.1
rising_once a (End ∷ os) h = rising_once a os h.1

-- ---- reports and their ranks

abbrev bound_in : Option Delivery → ℕ
bound_in None = 0
bound_in (Some delivery) = delivery.rank + 1

-- more than any rank from which a report was received
abbrev bound_of : List Action → ℕ
bound_of [] = 0
bound_of (action ∷ actions) = bound_in (taken_in action) + bound_of actions

whose_in : (taken : Option Delivery) (report : Report) → Contains (report_in taken) report
    → (rank : ℕ) × (rank < bound_in taken) × Contains (from_rank rank taken) report
whose_in None report there = absurd (nothing_in report there)
whose_in (Some delivery) report there = (
  delivery.rank,
  omega arith,
  subst (λ (b : Bool). Contains (only b delivery.report) report)
      (sym (eq-eqb delivery.rank delivery.rank refl)) there,
)

whose : (actions : List Action) (report : Report) → Contains (heard_of actions) report
    → (rank : ℕ) × (rank < bound_of actions) × Contains (reports_from rank actions) report
whose [] report there = absurd (nothing_in report there)
whose (action ∷ actions) report there =
    elim (Contains-append_cases (report_in (taken_in action)) (heard_of actions) report there) [
      | inl here ↦ let t = whose_in (taken_in action) report here in (
        t.0,
        omega (arith, t.1),
        Contains-append_left (from_rank t.0 (taken_in action)) (reports_from t.0 actions) report t.2,
      )
      | inr later ↦ let t = whose actions report later in (
        t.0,
        omega (arith, t.1),
        Contains-append_right (from_rank t.0 (taken_in action)) (reports_from t.0 actions) report t.2,
      )
    ]

among_in : (taken : Option Delivery) (rank : ℕ) (report : Report) → Contains (from_rank rank taken) report
    → Contains (report_in taken) report
among_in None rank report there = absurd (nothing_in report there)
among_in (Some delivery) rank report there =
    let own = only_there (eqb delivery.rank rank) delivery.report report there in
    subst (Contains (delivery.report ∷ [])) own.1 (in_front delivery.report [])

among_heard : (actions : List Action) (rank : ℕ) (report : Report) → Contains (reports_from rank actions) report
    → Contains (heard_of actions) report
among_heard [] rank report there = absurd (nothing_in report there)
among_heard (action ∷ actions) rank report there =
    elim (Contains-append_cases (from_rank rank (taken_in action)) (reports_from rank actions) report there) [
      | inl here ↦ Contains-append_left (report_in (taken_in action)) (heard_of actions) report
          (among_in (taken_in action) rank report here)
      | inr later ↦ Contains-append_right (report_in (taken_in action)) (heard_of actions) report
          (among_heard actions rank report later)
    ]

-- ---- at the end of a trace

pub none_waits : (n r : ℕ) → slice_index_or (replicate n first) r first ≡ first
none_waits n r = elim (cases_lt r n) [
  | inl below ↦ get_or-replicate n r first first below
  | inr past ↦ get_or_past (replicate n first) r first (omega (arith, past, length-replicate n first))
]

fit_first : (b : BookState) (faults : ℕ) → Fits (beginning b faults)
fit_first b faults = length-replicate (ranks_of b) first ∙ sym (length-replicate (ranks_of b) false)

pub none_read : (b : BookState) (faults r : ℕ) → IsRead r (beginning b faults) []
none_read b faults r = record {
  carried = All-nil reports.IsCarried;
  rest = [];
  parts = refl;
  waits = λ fine. ap (λ (w : Waiting). w.bytes) (sym (none_waits (ranks_of b) r));
}

module _ (b : BookState) (faults : ℕ) (unused : IsUnused b) (actions : List Action) (now : CoordinatorState)
    (trace : IsTrace (beginning b faults) actions now) where
  pub traffic : (r : ℕ) → IsTraffic b.settings.gap r (beginning b faults) now actions
  traffic r = traffic_is b.settings.gap r (beginning b faults) actions now refl (fit_first b faults) trace

  abbrev all : List Told
  all = left_of actions ++ now.book.orders

  numbered : IsNumbered 0 all now.book.last
  numbered =
      let grows = (traffic 0).grows in
      subst (λ (ts : List Told). IsNumbered 0 ts now.book.last)
      (sym (grows.orders ∙ ap (λ (os : List Told). os ++ grows.more) unused.orders))
      (subst (λ (n : ℕ). IsNumbered n grows.more now.book.last) unused.last grows.numbered)

  there : (r : ℕ) (work : Ordered) → Contains (orders_to b.settings.gap r actions) (order_of work)
      → Contains all (record { rank = r; order = order_of work })
  there r work sent = elim ((traffic r).own (order_of work) sent) [
    | inl left ↦ Contains-append_left (left_of actions) now.book.orders _ left
    | inr none ↦ absurd none
  ]

  pub sent_to : (r : ℕ) → IsSentTo b.problem now.said r (orders_to b.settings.gap r actions)
  sent_to r = record {
    carried = (traffic r).carried;
    bytes = (traffic r).told;
    records = λ gap bytes sent. elim ((traffic r).own (Setup gap bytes) sent) [
      | inl left ↦ absurd (no_setup 0 all now.book.last r gap bytes numbered
          (Contains-append_left (left_of actions) now.book.orders _ left))
      | inr own ↦ own
    ];
  }

  pub read_from : (r : ℕ) → AreReportsAt now.said r (reports_from r actions)
  read_from r =
      let read = (traffic r).read [] (none_read b faults r) in
      record { carried = read.carried; rest = read.rest; parts = read.parts }

  -- no end left the queue
  pub none_ends : (r : ℕ) → Contains (left_of actions) (record { rank = r; order = End }) → ⊥
  none_ends r left = no_end 0 all now.book.last r numbered
      (Contains-append_left (left_of actions) now.book.orders _ left)

  -- nor one that comes first
  pub none_sets : (r : ℕ) (gap : ℤ) (bytes : List ℕ)
      → Contains (left_of actions) (record { rank = r; order = Setup gap bytes }) → ⊥
  none_sets r gap bytes left = no_setup 0 all now.book.last r gap bytes numbered
      (Contains-append_left (left_of actions) now.book.orders _ left)

  pub once : (r : ℕ) → AreOnce (tickets_sent (orders_to b.settings.gap r actions))
  once r =
      let front = front_numbered 0 (left_of actions) now.book.orders now.book.last numbered in
      rising_once 0 (orders_to b.settings.gap r actions) (rising_to b.settings.gap r actions 0 front.0 front.1)

  apart : (q r : ℕ) (v w : Ordered) → Contains (orders_to b.settings.gap q actions) (order_of v)
      → Contains (orders_to b.settings.gap r actions) (order_of w) → v.ticket ≡ w.ticket → q ≡ r
  apart q r v w one two same =
      ap (λ (t : Told). t.rank) (one_told 0 all now.book.last q r v w numbered (there q v one) (there r w two)
      (ap (λ (t : Ticket). t.number) same))

  its_box : (r : ℕ) (work : Ordered) (area : List Interval)
      → Contains (orders_to b.settings.gap r actions) (order_of work)
      → IsGivenWith b.problem all work.ticket area → area ≡ area_by (root_of b.problem) work.changes
  its_box r work area sent g =
      let other : Ordered = record {
        ticket = work.ticket;
        params = g.params;
        race = g.race;
        cutoff = g.cutoff;
        changes = g.changes;
      } in
      let same = one_told 0 all now.book.last r g.rank work other numbered (there r work sent) g.among refl in
      g.box ∙ ap (λ (w : Ordered). area_by (root_of b.problem) w.changes)
      (sym (same_work work other (ap (λ (t : Told). work_of t.order) same)))

  -- all that was received is honest, where workers reported what was received
  pub honest_so : AreWorked now.said → IsHonestSo now.book (left_of actions) (heard_of actions)
  honest_so worked =
      subst (λ (p : Instance). AreHonest p (IsGivenWith p all) (heard_of actions))
      (sym (traffic 0).grows.problem)
      (crew_honest b.problem now.said (bound_of actions) (λ r. orders_to b.settings.gap r actions)
      (λ r. reports_from r actions) worked sent_to read_from once apart (heard_of actions) (whose actions)
      (among_heard actions) (IsGivenWith b.problem all) its_box)

-- ---- through a trace

-- what an action adds to what was sent and received
record IsAfter (action : Action) (past : Past) : Type 0 where
  told : (after action past).told ≡ past.told ++ option_to_list (left_in action)
  heard : (after action past).heard ≡ past.heard ++ report_in (taken_in action)

same_told : (past : Past) → past.told ≡ past.told ++ []
same_told past = sym (append-nil past.told)

same_heard : (past : Past) → past.heard ≡ past.heard ++ []
same_heard past = sym (append-nil past.heard)

is_after : (action : Action) (past : Past) → IsAfter action past
is_after (Launched rank) past = record { told = same_told past; heard = same_heard past }
is_after (SetUp rank bytes) past = record { told = same_told past; heard = same_heard past }
is_after (Closed rank) past = record { told = same_told past; heard = same_heard past }
is_after (Came rank bytes) past = record { told = same_told past; heard = same_heard past }
is_after (Took rank report answer) past = record { told = same_told past; heard = refl }
is_after (Lost rank cause) past = record { told = same_told past; heard = same_heard past }
is_after Decided past = record { told = same_told past; heard = same_heard past }
is_after (Sent rank order) past = record { told = refl; heard = same_heard past }
is_after (Unsent rank order) past = record { told = refl; heard = same_heard past }
is_after (Passed rank order) past = record { told = refl; heard = same_heard past }
is_after Broke past = record { told = same_told past; heard = same_heard past }
is_after (Unclosed rank) past = record { told = same_told past; heard = same_heard past }
is_after (Halted steps) past = record { told = same_told past; heard = same_heard past }
is_after (Unwritten rank order) past = record { told = refl; heard = same_heard past }
is_after (Unfed rank bytes) past = record { told = same_told past; heard = same_heard past }
is_after Unread past = record { told = same_told past; heard = same_heard past }
is_after Saved past = record { told = same_told past; heard = same_heard past }

pub left_push : (done : List Action) (action : Action)
    → left_of (done ++ action ∷ []) ≡ left_of done ++ option_to_list (left_in action)
left_push [] action = append-nil (option_to_list (left_in action))
left_push (one ∷ done) action =
    ap (λ (ts : List Told). option_to_list (left_in one) ++ ts) (left_push done action)
    ∙ sym (append_assoc (option_to_list (left_in one)) (left_of done) (option_to_list (left_in action)))

heard_push : (done : List Action) (action : Action)
    → heard_of (done ++ action ∷ []) ≡ heard_of done ++ report_in (taken_in action)
heard_push [] action = append-nil (report_in (taken_in action))
heard_push (one ∷ done) action =
    ap (λ (rs : List Report). report_in (taken_in one) ++ rs) (heard_push done action)
    ∙ sym (append_assoc (report_in (taken_in one)) (heard_of done) (report_in (taken_in action)))

-- reports honest of more tickets are honest of fewer
less_given : (p : Instance) (G H : Ticket → List Interval → Type 0) (heard : List Report)
    → ((ticket : Ticket) (area : List Interval) → G ticket area → H ticket area) → AreHonest p H heard
    → AreHonest p G heard
less_given p G H heard more h = record {
  hands = h.hands;
  dones = λ ticket cutoff count ending among area given.
      h.dones ticket cutoff count ending among area (more ticket area given);
}

given_more : (p : Instance) (told os us : List Told) (ticket : Ticket) (area : List Interval)
    → IsGivenWith p (told ++ os) ticket area → IsGivenWith p (told ++ (os ++ us)) ticket area
given_more p told os us ticket area g =
    let its : Told = record {
      rank = g.rank;
      order = WorkOrder ticket g.params g.race g.cutoff g.changes;
    } in
    record {
      rank = g.rank;
      params = g.params;
      race = g.race;
      cutoff = g.cutoff;
      changes = g.changes;
      among = subst (λ (ts : List Told). Contains ts its) (append_assoc told os us)
          (Contains-append_left (told ++ os) us its g.among);
      box = g.box;
    }

honest_back : (old new : BookState) (told : List Told) (heard : List Report) → Grows [] old new
    → IsHonestSo new told heard → IsHonestSo old told heard
honest_back old new told heard grows h =
    less_given old.problem (IsGivenWith old.problem (told ++ old.orders))
    (IsGivenWith old.problem (told ++ (old.orders ++ grows.more))) heard
    (given_more old.problem told old.orders grows.more)
    (subst (λ (os : List Told). AreHonest old.problem (IsGivenWith old.problem (told ++ os)) heard) grows.orders
    (subst (λ (p : Instance). AreHonest p (IsGivenWith p (told ++ new.orders)) heard) grows.problem h))

-- reports honest once one was answered were so before
now_by : (old mid : CoordinatorState) (past : Past) (action : Action) → NextState old action mid
    → IsHonestSo mid.book (after action past).told (after action past).heard → honest_at old past action
now_by old mid past (Launched rank) does h = tt
now_by old mid past (SetUp rank bytes) does h = tt
now_by old mid past (Closed rank) does h = tt
now_by old mid past (Came rank bytes) does h = tt
now_by old mid past (Took rank report answer) does h =
    honest_back old.book mid.book past.told (past.heard ++ report ∷ [])
    (subst (Grows [] old.book) (sym (ap (λ (s : CoordinatorState). s.book) does.rest))
    (heard_grows answer rank report old.book)) h
now_by old mid past (Lost rank cause) does h = tt
now_by old mid past Decided does h = tt
now_by old mid past (Sent rank order) does h = tt
now_by old mid past (Unsent rank order) does h = tt
now_by old mid past (Passed rank order) does h = tt
now_by old mid past Broke does h = tt
now_by old mid past (Unclosed rank) does h = tt
now_by old mid past (Halted steps) does h = tt
now_by old mid past (Unwritten rank order) does h = tt
now_by old mid past (Unfed rank bytes) does h = tt
now_by old mid past Unread does h = tt
now_by old mid past Saved does h = tt

module _ (b : BookState) (faults : ℕ) (unused : IsUnused b) (said : List Exchange)
    (worked : AreAlwaysWorked said) where
  stays_honest : (done : List Action) (old : CoordinatorState) (actions : List Action) (new : CoordinatorState) (past : Past)
      → IsTrace (beginning b faults) done old → (trace : IsTrace old actions new) → (more : List Exchange)
      → said ≡ new.said ++ more → past.told ≡ left_of done → past.heard ≡ heard_of done
      → StaysHonest old past actions new trace
  stays_honest done old [] new past so trace more same told heard = tt
  stays_honest done old (action ∷ actions) new past so (mid, does, rest) more same told heard =
      let so_far = trace_more (beginning b faults) done old mid action so does in
      let first = traffic b faults unused (done ++ action ∷ []) mid so_far 0 in
      let later = traffic_is mid.book.settings.gap 0 mid actions new refl first.fit rest in
      let its = is_after action past in
      let told_so = its.told ∙ ap (λ (ts : List Told). ts ++ option_to_list (left_in action)) told
      ∙ sym (left_push done action) in
      let heard_so = its.heard ∙ ap (λ (rs : List Report). rs ++ report_in (taken_in action)) heard
      ∙ sym (heard_push done action) in
      let honest : IsHonestSo mid.book (after action past).told (after action past).heard =
      subst (λ (ts : List Told). IsHonestSo mid.book ts (after action past).heard) (sym told_so)
      (subst (λ (rs : List Report). IsHonestSo mid.book (left_of (done ++ action ∷ [])) rs) (sym heard_so)
      (honest_so b faults unused (done ++ action ∷ []) mid so_far
      (worked mid.said (later.more ++ more)
      (same ∙ ap (λ (s : List Exchange). s ++ more) later.grown ∙ append_assoc mid.said later.more more)))) in (
        now_by old mid past action does honest,
        (
          honest,
          stays_honest (done ++ action ∷ []) mid actions new (after action past) so_far rest more same told_so heard_so,
        ),
      )

pub coordinators_of_workers_lose_nothing : CoordinatorsOfWorkersLoseNothing
coordinators_of_workers_lose_nothing b faults now come made sound unused worked =
    coordinators_lose_nothing b faults now come made sound unused.last
    (stays_honest b faults unused now.said worked [] (beginning b faults) come.actions now nothing refl come.trace []
    (sym (append-nil now.said)) refl refl)
