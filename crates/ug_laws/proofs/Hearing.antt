-- Reports received agree with the orders sent, if they are fair.
use Rattle.std.proofs.Common.{◌≡◌, ◌≢◌, ◌⊎◌, inl, inr, ℕ, ℤ, ◌<◌, ◌-ℤ◌, true, false, List, [], ◌∷◌, ◌++◌, append-nil, length, Option, None, Some, refl, sym, ap, subst, ◌∙◌, arith}
use Rattle.std.specs.Prelude.{Contains, slice_set, ◌≤ℤ◌, ◌<ℤ◌}
use Rattle.std.specs.Int.{int_max}
use Rattle.std.proofs.lemmas.Bool.{cases_eq, false≢true}
use Rattle.std.proofs.lemmas.Int.{ints, by_lt_z}
use Rattle.std.proofs.lemmas.List.{get_or-set_other, get_or-set_same, length-append}
use Rattle.std.proofs.lemmas.List.Elements.{Contains-append_cases}
use Rattle.ug_rows.specs.Rows.{value_of}
use Rattle.ug_rows.specs.Sums.{box_floor}
use Rattle.ug_problem.specs.Better.{cutoff_of}
use Rattle.ug_problem.specs.Instances.{Instance, root_of}
use Rattle.ug_problem.specs.Offers.{IsBetter, IsNotBetter}
use Rattle.ug_nodes.specs.declared.name.Ticket.{Ticket}
use Rattle.ug_nodes.specs.declared.change.Change.{Change}
use Rattle.ug_nodes.specs.Changes.{area_by}
use Rattle.ug_frames.specs.declared.order.Order.{Order}
use Rattle.ug_frames.specs.declared.order.Order.TheVariants.{Setup, Work as WorkOrder, Incumbent, CollectIn}
use Rattle.ug_frames.specs.declared.order.Order.TheVariants.{CollectOut, Winner, Stop, End}
use Rattle.ug_frames.specs.declared.report.Report.{Report}
use Rattle.ug_frames.specs.declared.report.Report.TheVariants.{Ready, Solution, Hand, State as Reported, Done, Ended}
use Rattle.ug_ranks.specs.declared.state.Off.TheVariants.{Died}
use Rattle.ug_ranks.specs.declared.state.Work.{Work}
use Rattle.ug_ranks.specs.declared.state.State.{State}
use Rattle.ug_ranks.specs.declared.state.State.TheVariants.{Absent, Idle, Racing, Active, Dead}
use Rattle.ug_ranks.specs.Changes.{grown, joined, noted}
use Rattle.ug_ranks.specs.Looks.{hands_taken, is_racing, ticket_at}
use Rattle.ug_ranks.specs.States.{state_at}
use Rattle.ug_ledger.specs.Dones.{IsBackedBy}
use Rattle.ug_rules.specs.declared.heard.Heard.{Heard}
use Rattle.ug_rules.specs.declared.heard.Heard.TheVariants.{Kept, Stale, Early, Broken, NotBetter, InRace, Again, Gap, Outside, Unbacked, Short, Memory}
use Rattle.ug_rules.specs.declared.told.Told.{Told}
use Rattle.ug_rules.specs.State.{BookState}
use Rattle.ug_rules.specs.Hearing.{IsDue, IsDueUnder, IsHandDue, IsSolutionDue, after_hearing, done_at, handed_at, is_deadly, kept}
use Rattle.ug_rules.specs.Ranks.{racers_freed}
use Rattle.ug_serve.proofs.Counted.{cases_ticket, hands_on, hands_under, is_itself, is_ticket}
use Rattle.ug_serve.proofs.Honesty.{nothing_in}
use Rattle.ug_serve.proofs.Told.{first_or}
use Rattle.ug_laws.proofs.Fair.{IsFair, IsFairHand}
use Rattle.ug_laws.proofs.Outlooks.{AreGoodOrders, AreNamed, ArePointsBacked, IsBacked, IsFurther, IsOn, IsOrderBacked, IsReportNamed, IsTracked, IsWorkOn, Outlook, freed, freed_at, freed_on, orders_on, outlook_of, set_on}
use Rattle.ug_laws.proofs.Tracked.{IsTrackedBy}

-- ---- one report more

-- a report under the ticket: the cutoff of a point is backed, and there is no hand
abbrev IsHeardUnder : Outlook → Ticket → Report → Type 0
IsHeardUnder o ticket (Solution own x) =
    own ≡ ticket → IsBacked o (Some (cutoff_of o.problem o.gap x))
IsHeardUnder o ticket (Hand own number changes) = own ≢ ticket
IsHeardUnder o ticket report = Unit {0}

abbrev IsHeardAt : Outlook → State → Report → Type 0
IsHeardAt o (Racing racer) report = IsHeardUnder o racer.ticket report
IsHeardAt o (Active work) report = IsHeardUnder o work.ticket report
IsHeardAt o state report = Unit {0}

no_hand : (o : Outlook) (ticket : Ticket) (report : Report) → IsHeardUnder o ticket report
    → hands_under ticket (report ∷ []) ≡ 0
no_hand o ticket Ready h = refl
no_hand o ticket (Solution own x) h = refl
no_hand o ticket (Hand own number changes) h = elim (cases_ticket own ticket) [
  | inl same ↦ absurd (h same)
  | inr other ↦ rw other (omega arith)
]
no_hand o ticket (Reported own count floor) h = refl
no_hand o ticket (Done own told count ending) h = refl
no_hand o ticket Ended h = refl

as_many : (o : Outlook) (ticket : Ticket) (heard : List Report) (report : Report) → IsHeardUnder o ticket report
    → hands_under ticket (heard ++ report ∷ []) ≡ hands_under ticket heard
as_many o ticket heard report h =
    omega (arith, hands_on ticket heard (report ∷ []), no_hand o ticket report h)

last_or : (heard : List Report) (report one : Report) → Contains (heard ++ report ∷ []) one
    → Contains heard one ⊎ (report ≡ one)
last_or heard report one there = elim (Contains-append_cases heard (report ∷ []) one there) [
  | inl before ↦ inl before
  | inr last ↦ elim (first_or report [] one last) [
    | inl same ↦ inr same
    | inr none ↦ absurd (nothing_in one none)
  ]
]

point_under : (o : Outlook) (ticket : Ticket) (report : Report) (x : List ℤ) → IsHeardUnder o ticket report
    → report ≡ Solution ticket x → IsBacked o (Some (cutoff_of o.problem o.gap x))
point_under o ticket report x h same = subst (IsHeardUnder o ticket) same h refl

points_more : (o : Outlook) (ticket : Ticket) (heard : List Report) (report : Report)
    → IsHeardUnder o ticket report → ArePointsBacked o heard ticket
    → ArePointsBacked o (heard ++ report ∷ []) ticket
points_more o ticket heard report h points x there = elim (last_or heard report (Solution ticket x) there) [
  | inl before ↦ points x before
  | inr last ↦ point_under o ticket report x h last
]

on_more : (o : Outlook) (all : List Told) (heard : List Report) (report : Report) (state : State)
    → IsHeardAt o state report → IsOn o all heard state → IsOn o all (heard ++ report ∷ []) state
on_more o all heard report Absent h on = tt
on_more o all heard report Idle h on = tt
on_more o all heard report (Racing racer) h on = record {
  given = on.given;
  race = on.race;
  node = on.node;
  not_won = on.not_won;
  none = as_many o racer.ticket heard report h ∙ on.none;
  points = points_more o racer.ticket heard report h on.points;
}
on_more o all heard report (Active work) h on = record {
  given = on.given;
  node = on.node;
  hands = as_many o work.ticket heard report h ∙ on.hands;
  points = points_more o work.ticket heard report h on.points;
}
on_more o all heard report (Dead how) h on = tt

named_more : (last : ℕ) (heard : List Report) (report : Report) → IsReportNamed last report
    → AreNamed last heard → AreNamed last (heard ++ report ∷ [])
named_more last heard report its named one there = elim (last_or heard report one there) [
  | inl before ↦ named one before
  | inr same ↦ subst (IsReportNamed last) same its
]

-- what was received then, of each rank
pub record HasHeard (r : ℕ) (report : Report) (heard heard_then : ℕ → List Report) : Type 0 where
  pub its : heard_then r ≡ heard r ++ report ∷ []
  pub others : (q : ℕ) → q ≢ r → heard_then q ≡ heard q

module _ (r : ℕ) (report : Report) (heard heard_then : ℕ → List Report)
    (h : HasHeard r report heard heard_then) where
  each_rank : (P : ℕ → List Report → Type 0) → P r (heard r ++ report ∷ []) → ((q : ℕ) → q ≢ r → P q (heard q))
      → (q : ℕ) → P q (heard_then q)
  each_rank P own others q = elim (cases_eq q r) [
    | inl same ↦ subst (λ (k : ℕ). P k (heard_then k)) (sym same) (subst (P r) (sym h.its) own)
    | inr other ↦ subst (P q) (sym (h.others q other)) (others q other)
  ]

  tracked_more : (o : Outlook) (states : List State) (all : List Told) → IsReportNamed o.last report
      → IsHeardAt o (state_at states r) report → IsTracked o states all heard
      → IsTracked o states all heard_then
  tracked_more o states all named well t = record {
    orders = t.orders;
    named = each_rank (λ q rs. AreNamed o.last rs) (named_more o.last (heard r) report named (t.named r))
        (λ q other. t.named q);
    on = each_rank (λ q rs. IsOn o all rs (state_at states q))
        (on_more o all (heard r) report (state_at states r) well (t.on r)) (λ q other. t.on q);
  }

-- ---- cutoffs

max_is : (a b : ℤ) → ((int_max a b ≡ a) × (b ≤ℤ a)) ⊎ ((int_max a b ≡ b) × (a ≤ℤ b))
max_is a b = by_lt_z b a
    (λ less. inl (grind (arith, ints, less), omega (arith, ints, less)))
    (λ more. inr (grind (arith, ints, more), more))

max_up : (a b low : ℤ) → a ≤ℤ b → int_max a low ≤ℤ int_max b low
max_up a b low less = elim (max_is a low) [
  | inl m ↦ elim (max_is b low) [
    | inl n ↦ let e = m.0 in let f = n.0 in omega (arith, ints, e, f, less)
    | inr n ↦ let e = m.0 in let f = n.0 in omega (arith, ints, e, f, less, n.1)
  ]
  | inr m ↦ elim (max_is b low) [
    | inl n ↦ let e = m.0 in let f = n.0 in omega (arith, ints, e, f, n.1)
    | inr n ↦ let e = m.0 in let f = n.0 in omega (arith, ints, e, f)
  ]
]

less_gap : (a b gap : ℤ) → a ≤ℤ b → (a -ℤ gap) ≤ℤ (b -ℤ gap)
less_gap a b gap less = omega (arith, ints, less)

cutoff_up : (p : Instance) (gap : ℤ) (x y : List ℤ) → value_of p.objective x ≤ℤ value_of p.objective y
    → cutoff_of p gap x ≤ℤ cutoff_of p gap y
cutoff_up p gap x y less =
    max_up (value_of p.objective x -ℤ gap) (value_of p.objective y -ℤ gap) (box_floor p.objective (root_of p))
    (less_gap (value_of p.objective x) (value_of p.objective y) gap less)

at_most : (a b c : ℤ) → a ≤ℤ b → b ≤ℤ c → a ≤ℤ c
at_most a b c one two = omega (arith, ints, one, two)

at_most_below : (a b : ℤ) → a <ℤ b → a ≤ℤ b
at_most_below a b less = omega (arith, ints, less)

at_least : (a : ℤ) → a ≤ℤ a
at_least a = omega (arith, ints)

abbrev int_or : ℤ → Option ℤ → ℤ
int_or other None = other
int_or other (Some v) = v

abbrev int_count : Option ℤ → ℕ
int_count None = 0
int_count (Some v) = 1

-- the cutoff of a point that is not better is backed
not_better_backed : (p : Instance) (gap : ℤ) (best : Option (List ℤ)) (x : List ℤ) (was given : ℤ)
    → IsNotBetter p best x was given → IsBackedBy p gap best (Some (cutoff_of p gap x))
not_better_backed p gap None x was given n = absurd (omega (arith, ap int_count n.kept_value))
not_better_backed p gap (Some y) x was given n =
    cutoff_up p gap y x
    (subst (λ (v : ℤ). v ≤ℤ value_of p.objective x)
    (sym (ap (int_or was) n.kept_value))
    (subst (λ (v : ℤ). was ≤ℤ v) n.given_value n.more))

-- a cutoff that is backed is backed by a better point too
better_backed : (p : Instance) (gap : ℤ) (best : Option (List ℤ)) (x : List ℤ) (cutoff : Option ℤ)
    → IsBetter p best x → IsBackedBy p gap best cutoff → IsBackedBy p gap (Some x) cutoff
better_backed p gap best x None better backed = tt
better_backed p gap None x (Some v) better backed = absurd backed
better_backed p gap (Some y) x (Some v) better backed =
    at_most (cutoff_of p gap x) (cutoff_of p gap y) v
    (cutoff_up p gap x y (at_most_below (value_of p.objective x) (value_of p.objective y) better.less)) backed

-- ---- the book with a report kept, whatever was received

abbrev with_best : List ℤ → Outlook → Outlook
with_best x o = record o { best = Some x }

module _ (o : Outlook) (x : List ℤ) (better : IsBetter o.problem o.best x) where
  order_better : (order : Order) → IsOrderBacked o order → IsOrderBacked (with_best x o) order
  order_better (Setup gap bytes) backed = tt
  order_better (WorkOrder ticket params race cutoff changes) backed =
      better_backed o.problem o.gap o.best x cutoff better backed
  order_better (Incumbent cutoff) backed = better_backed o.problem o.gap o.best x (Some cutoff) better backed
  order_better (CollectIn ticket count) backed = tt
  order_better (CollectOut ticket) backed = tt
  order_better (Winner ticket) backed = tt
  order_better (Stop ticket) backed = tt
  order_better End backed = tt

  points_better : (heard : List Report) (ticket : Ticket) → ArePointsBacked o heard ticket
      → ArePointsBacked (with_best x o) heard ticket
  points_better heard ticket points y there =
      better_backed o.problem o.gap o.best x (Some (cutoff_of o.problem o.gap y)) better (points y there)

  on_better : (all : List Told) (heard : List Report) (state : State) → IsOn o all heard state
      → IsOn (with_best x o) all heard state
  on_better all heard Absent on = tt
  on_better all heard Idle on = tt
  on_better all heard (Racing racer) on = record {
    given = record { above = on.given.above; below = on.given.below };
    race = on.race;
    node = on.node;
    not_won = on.not_won;
    none = on.none;
    points = points_better heard racer.ticket on.points;
  }
  on_better all heard (Active work) on = record {
    given = record { above = on.given.above; below = on.given.below };
    node = on.node;
    hands = on.hands;
    points = points_better heard work.ticket on.points;
  }
  on_better all heard (Dead how) on = tt

  tracked_better : (states : List State) (all : List Told) (heard : ℕ → List Report)
      → IsTracked o states all heard → IsTracked (with_best x o) states all heard
  tracked_better states all heard t = record {
    orders = λ told there. record {
      backed = order_better told.order (t.orders told there).backed;
      named = (t.orders told there).named;
    };
    named = t.named;
    on = λ rank. on_better all (heard rank) (state_at states rank) (t.on rank);
  }

joined_on : (o : Outlook) (all : List Told) (heard : List Report) (state : State) → IsOn o all heard state
    → IsOn o all heard (joined state)
joined_on o all heard Absent on = tt
joined_on o all heard Idle on = tt
joined_on o all heard (Racing racer) on = on
joined_on o all heard (Active work) on = on
joined_on o all heard (Dead how) on = tt

noted_on : (o : Outlook) (all : List Told) (heard : List Report) (count : ℕ) (floor : ℤ) (state : State)
    → IsOn o all heard state → IsOn o all heard (noted count floor state)
noted_on o all heard count floor Absent on = tt
noted_on o all heard count floor Idle on = tt
noted_on o all heard count floor (Racing racer) on = on
noted_on o all heard count floor (Active work) on = on
noted_on o all heard count floor (Dead how) on = tt

-- the state of one rank changed
set_tracked : (o : Outlook) (states : List State) (all : List Told) (heard : ℕ → List Report) (r : ℕ)
    (state : State) → IsOn o all (heard r) state → IsTracked o states all heard
    → IsTracked o (slice_set states r state) all heard
set_tracked o states all heard r state its t = record {
  orders = t.orders;
  named = t.named;
  on = λ rank. set_on (IsOn o all (heard rank)) states r state rank
      (λ same. subst (λ (q : ℕ). IsOn o all (heard q) state) same its) (t.on rank);
}

-- each racer is freed, and nothing is raced
module _ (b : BookState) (left : List Told) (heard : ℕ → List Report) (t : IsTrackedBy left heard b) where
  abbrev all_orders : List Told
  all_orders = left ++ b.orders

  abbrev o_then : Outlook
  o_then = record (outlook_of b) { raced = None }

  further : IsFurther (outlook_of b) o_then
  further = record { problem = refl; gap = refl; best = refl; last = omega arith }

  race_freed : IsTracked o_then (racers_freed b.ranks) all_orders heard
  race_freed = record {
    orders = subst (AreGoodOrders o_then) (append-nil all_orders)
        (orders_on (outlook_of b) o_then further all_orders [] t.orders (λ told there. absurd (nothing_in told there)));
    named = t.named;
    on = λ rank.
        subst (IsOn o_then all_orders (heard rank)) (sym (freed_at b.ranks rank))
        (subst (λ (os : List Told). IsOn o_then os (heard rank) (freed (state_at b.ranks rank))) (append-nil all_orders)
        (freed_on (outlook_of b) o_then further all_orders [] (λ told there. absurd (nothing_in told there)) (heard rank)
        (state_at b.ranks rank) (t.on rank)));
  }

  done_tracked : (state : State) (r : ℕ) → IsTrackedBy left heard (done_at state r b)
  done_tracked Absent r = t
  done_tracked Idle r = t
  done_tracked (Racing racer) r = race_freed
  done_tracked (Active work) r = set_tracked (outlook_of b) b.ranks all_orders heard r Idle tt t
  done_tracked (Dead how) r = t

-- ---- what the answers say

abbrev ticket_count : Option Ticket → ℕ
ticket_count None = 0
ticket_count (Some ticket) = 1

abbrev ticket_or : Ticket → Option Ticket → Ticket
ticket_or other None = other
ticket_or other (Some ticket) = ticket

is_or_not : (own ticket : Ticket) → (Some own ≡ Some ticket) ⊎ (Some own ≢ Some ticket)
is_or_not own ticket = elim (cases_ticket own ticket) [
  | inl same ↦ inl (ap Some same)
  | inr other ↦ inr (λ same. false≢true (sym other
      ∙ subst (λ (t : Ticket). is_ticket own t ≡ true) (ap (ticket_or own) same) (is_itself own)))
]

is_current : (state : State) (ticket : Ticket) → (ticket_at state ≡ Some ticket) ⊎ (ticket_at state ≢ Some ticket)
is_current Absent ticket = inr (λ same. omega (arith, ap ticket_count same))
is_current Idle ticket = inr (λ same. omega (arith, ap ticket_count same))
is_current (Racing racer) ticket = is_or_not racer.ticket ticket
is_current (Active work) ticket = is_or_not work.ticket ticket
is_current (Dead how) ticket = inr (λ same. omega (arith, ap ticket_count same))

abbrev answer_kind : Heard → ℕ
answer_kind Kept = 1
answer_kind answer = 0

kept_is_current : (b : BookState) (state : State) (ticket : Ticket) (report : Report)
    → IsDueUnder b state ticket report Kept → ticket_at state ≡ Some ticket
kept_is_current b state ticket report due = elim (is_current state ticket) [
  | inl current ↦ current
  | inr other ↦ absurd (omega (arith, ap answer_kind (due.other other)))
]

solution_at : (b : BookState) (o : Outlook) (state : State) (own : Ticket) (x : List ℤ) (answer : Heard)
    → IsDueUnder b state own (Solution own x) answer
    → (IsSolutionDue b x answer → IsBacked o (Some (cutoff_of o.problem o.gap x)))
    → IsHeardAt o state (Solution own x)
solution_at b o Absent own x answer due backed = tt
solution_at b o Idle own x answer due backed = tt
solution_at b o (Racing racer) own x answer due backed =
    λ same. backed (due.current (ap Some (sym same)))
solution_at b o (Active work) own x answer due backed =
    λ same. backed (due.current (ap Some (sym same)))
solution_at b o (Dead how) own x answer due backed = tt

solution_better : (b : BookState) (state : State) (own : Ticket) (x : List ℤ)
    → IsDueUnder b state own (Solution own x) Kept → IsBetter b.problem b.best x
solution_better b Absent own x due =
    absurd (omega (arith, ap ticket_count (kept_is_current b Absent own (Solution own x) due)))
solution_better b Idle own x due =
    absurd (omega (arith, ap ticket_count (kept_is_current b Idle own (Solution own x) due)))
solution_better b (Racing racer) own x due =
    due.current (kept_is_current b (Racing racer) own (Solution own x) due)
solution_better b (Active work) own x due =
    due.current (kept_is_current b (Active work) own (Solution own x) due)
solution_better b (Dead how) own x due =
    absurd (omega (arith, ap ticket_count (kept_is_current b (Dead how) own (Solution own x) due)))

hand_at : (b : BookState) (o : Outlook) (state : State) (own : Ticket) (number : ℕ) (changes : List Change)
    (answer : Heard) → IsDueUnder b state own (Hand own number changes) answer
    → (ticket_at state ≡ Some own → IsFairHand b state number changes)
    → ((work : Work) → IsHandDue b work number changes answer → number ≡ length work.taken → ⊥)
    → IsHeardAt o state (Hand own number changes)
hand_at b o Absent own number changes answer due fair none = tt
hand_at b o Idle own number changes answer due fair none = tt
hand_at b o (Racing racer) own number changes answer due fair none =
    λ same. false≢true (sym (ap is_racing (fair (ap Some (sym same))).works))
hand_at b o (Active work) own number changes answer due fair none = λ same.
    let f = fair (ap Some (sym same)) in
    none work (due.current (ap Some (sym same))) (f.next.next ∙ sym (ap hands_taken f.works))
hand_at b o (Dead how) own number changes answer due fair none = tt

-- ---- a report is received

abbrev report_kind : Report → ℕ
report_kind (Solution own x) = 1
report_kind report = 0

-- a report under no ticket, or one of neither a point nor a hand
nothing_under : (o : Outlook) (state : State) (report : Report)
    → ((ticket : Ticket) → IsHeardUnder o ticket report) → IsHeardAt o state report
nothing_under o Absent report h = tt
nothing_under o Idle report h = tt
nothing_under o (Racing racer) report h = h racer.ticket
nothing_under o (Active work) report h = h work.ticket
nothing_under o (Dead how) report h = tt

module _ (b : BookState) (left : List Told) (r : ℕ) (heard heard_then : ℕ → List Report) where
  abbrev Is : Heard → Report → Type 0
  Is answer report = IsTrackedBy left heard_then (after_hearing answer r report b)

  abbrev all : List Told
  all = left ++ b.orders

  -- the book is as before
  unchanged : (report : Report) → HasHeard r report heard heard_then → IsReportNamed b.last report
      → IsHeardAt (outlook_of b) (state_at b.ranks r) report → IsTrackedBy left heard b
      → IsTrackedBy left heard_then b
  unchanged report h named well t =
      tracked_more r report heard heard_then h (outlook_of b) b.ranks all named well t

  -- the next hand is taken
  hand_kept : (own : Ticket) (number : ℕ) (changes : List Change) → HasHeard r (Hand own number changes) heard heard_then
      → r < length b.ranks → IsReportNamed b.last (Hand own number changes)
      → ticket_at (state_at b.ranks r) ≡ Some own → IsFairHand b (state_at b.ranks r) number changes
      → IsTrackedBy left heard b → IsTrackedBy left heard_then (kept r (Hand own number changes) b)
  hand_kept own number changes h there named current fair t =
      let o = outlook_of b in
      let work = fair.work in
      let area = area_by (root_of b.problem) changes in
      let grew = grown area (state_at b.ranks r) in
      let on : IsWorkOn o all (heard r) work.ticket work.node.changes (length work.taken) =
      subst (IsOn o all (heard r)) fair.works (t.on r) in
      let same : own ≡ work.ticket =
      ap (ticket_or own) (sym current ∙ ap ticket_at fair.works) in
      let yes : is_ticket own work.ticket ≡ true = subst (λ (k : Ticket). is_ticket own k ≡ true) same (is_itself own) in
      let one : hands_under work.ticket (Hand own number changes ∷ []) ≡ 1 = rw yes (omega arith) in
      let its : IsWorkOn o all (heard r ++ Hand own number changes ∷ []) work.ticket work.node.changes
      (length (work.taken ++ area ∷ [])) =
      record {
        given = on.given;
        node = on.node;
        hands = omega (
          arith,
          hands_on work.ticket (heard r) (Hand own number changes ∷ []),
          one,
          on.hands,
          length-append work.taken (area ∷ []),
        );
        points = λ x there. elim (last_or (heard r) (Hand own number changes) (Solution work.ticket x) there) [
          | inl before ↦ on.points x before
          | inr last ↦ absurd (omega (arith, ap report_kind last))
        ];
      } in
      subst (λ (s : State). IsTrackedBy left heard_then (handed_at s r changes b)) (sym fair.works) (record {
        orders = t.orders;
        named = each_rank r (Hand own number changes) heard heard_then h (λ q rs. AreNamed o.last rs)
            (named_more o.last (heard r) (Hand own number changes) named (t.named r)) (λ q other. t.named q);
        on = each_rank r (Hand own number changes) heard heard_then h
            (λ q rs. IsOn o all rs (state_at (slice_set b.ranks r grew) q))
            (subst (IsOn o all (heard r ++ Hand own number changes ∷ []))
            (sym (get_or-set_same b.ranks r grew (Dead Died) there))
            (subst (λ (s : State). IsOn o all (heard r ++ Hand own number changes ∷ []) (grown area s)) (sym fair.works)
            its))
            (λ q other. subst (IsOn o all (heard q)) (sym (get_or-set_other b.ranks r q grew (Dead Died) other))
            (t.on q));
      })

  kept_so : (report : Report) → HasHeard r report heard heard_then → r < length b.ranks
      → IsDue b r report Kept → IsFair b (state_at b.ranks r) report → IsReportNamed b.last report
      → IsTrackedBy left heard b → IsTrackedBy left heard_then (kept r report b)
  kept_so Ready h there due fair named t =
      let o = outlook_of b in
      let state = state_at b.ranks r in
      let on = unchanged Ready h named (nothing_under o state Ready (λ ticket. tt)) t in
      set_tracked o b.ranks all heard_then r (joined state) (joined_on o all (heard_then r) state (on.on r)) on
  kept_so (Solution own x) h there due fair named t =
      let o = outlook_of b in
      let state = state_at b.ranks r in
      let better = solution_better b state own x due in
      tracked_more r (Solution own x) heard heard_then h (with_best x o) b.ranks all named
      (solution_at b (with_best x o) state own x Kept due (λ is. at_least (cutoff_of b.problem b.settings.gap x)))
      (tracked_better o x better b.ranks all heard t)
  kept_so (Hand own number changes) h there due fair named t =
      let current = kept_is_current b (state_at b.ranks r) own (Hand own number changes) due in
      hand_kept own number changes h there named current (fair current) t
  kept_so (Reported own count floor) h there due fair named t =
      let o = outlook_of b in
      let state = state_at b.ranks r in
      let on = unchanged (Reported own count floor) h named
      (nothing_under o state (Reported own count floor) (λ ticket. tt)) t in
      set_tracked o b.ranks all heard_then r (noted count floor state)
      (noted_on o all (heard_then r) count floor state (on.on r)) on
  kept_so (Done own told count ending) h there due fair named t =
      let o = outlook_of b in
      let state = state_at b.ranks r in
      done_tracked b left heard_then
      (unchanged (Done own told count ending) h named
      (nothing_under o state (Done own told count ending) (λ ticket. tt)) t) state r
  kept_so Ended h there due fair named t =
      unchanged Ended h named (nothing_under (outlook_of b) (state_at b.ranks r) Ended (λ ticket. tt)) t

  -- facts if the answer leaves the book as it is
  well_at : (report : Report) (answer : Heard) → IsDue b r report answer → IsFair b (state_at b.ranks r) report
      → ((x : List ℤ) → IsSolutionDue b x answer
      → IsBacked (outlook_of b) (Some (cutoff_of b.problem b.settings.gap x)))
      → ((work : Work) (number : ℕ) (changes : List Change) → IsHandDue b work number changes answer
      → number ≡ length work.taken → ⊥)
      → IsHeardAt (outlook_of b) (state_at b.ranks r) report
  well_at Ready answer due fair points hands =
      nothing_under (outlook_of b) (state_at b.ranks r) Ready (λ ticket. tt)
  well_at (Solution own x) answer due fair points hands =
      solution_at b (outlook_of b) (state_at b.ranks r) own x answer due (points x)
  well_at (Hand own number changes) answer due fair points hands =
      hand_at b (outlook_of b) (state_at b.ranks r) own number changes answer due fair
      (λ work. hands work number changes)
  well_at (Reported own count floor) answer due fair points hands =
      nothing_under (outlook_of b) (state_at b.ranks r) (Reported own count floor) (λ ticket. tt)
  well_at (Done own told count ending) answer due fair points hands =
      nothing_under (outlook_of b) (state_at b.ranks r) (Done own told count ending) (λ ticket. tt)
  well_at Ended answer due fair points hands =
      nothing_under (outlook_of b) (state_at b.ranks r) Ended (λ ticket. tt)

  pub heard_so : (report : Report) (answer : Heard) → HasHeard r report heard heard_then → r < length b.ranks
      → IsDue b r report answer → IsFair b (state_at b.ranks r) report → IsReportNamed b.last report
      → is_deadly answer ≡ false → answer ≢ Memory → IsTrackedBy left heard b
      → IsTrackedBy left heard_then (after_hearing answer r report b)
  heard_so report Kept h there due fair named harmless some t = kept_so report h there due fair named t
  heard_so report Stale h there due fair named harmless some t =
      unchanged report h named
      (well_at report Stale due fair (λ x is. absurd is) (λ work number changes is next. is)) t
  heard_so report (NotBetter was given) h there due fair named harmless some t =
      unchanged report h named
      (well_at report (NotBetter was given) due fair
      (λ x is. not_better_backed b.problem b.settings.gap b.best x was given is)
      (λ work number changes is next. is)) t
  heard_so report Again h there due fair named harmless some t =
      unchanged report h named
      (well_at report Again due fair (λ x is. absurd is) (λ work number changes is next. omega (arith, is, next))) t
  heard_so report Memory h there due fair named harmless some t = absurd (some refl)
  heard_so report Early h there due fair named harmless some t = absurd (false≢true (sym harmless))
  heard_so report (Broken first) h there due fair named harmless some t = absurd (false≢true (sym harmless))
  heard_so report InRace h there due fair named harmless some t = absurd (false≢true (sym harmless))
  heard_so report (Gap want got) h there due fair named harmless some t = absurd (false≢true (sym harmless))
  heard_so report (Outside column) h there due fair named harmless some t = absurd (false≢true (sym harmless))
  heard_so report (Unbacked cutoff incumbent) h there due fair named harmless some t =
      absurd (false≢true (sym harmless))
  heard_so report (Short said was) h there due fair named harmless some t = absurd (false≢true (sym harmless))
