-- A frame can carry each order that a book queues: its ticket was given, and its numbers are within
-- their ranges.
use Rattle.std.proofs.Common.{◌≡◌, ◌≢◌, inl, inr, ℕ, ℤ, suc, ◌+◌, ◌<◌, ◌≤◌, Bool, true, false, List, [], ◌∷◌, ◌++◌, length, refl, sym, ap, ◌∙◌, subst, arith}
use Rattle.std.specs.Prelude.{Contains, IfSome, IsSome, Option, Some, None, ◌==◌, slice_set}
use Rattle.std.proofs.lemmas.Bool.{cases_Bool, cases_eq, cases_lt, false≢true}
use Rattle.std.proofs.lemmas.Option.{none-some, same_Some}
use Rattle.std.proofs.lemmas.List.{set_past}
use Rattle.std.proofs.lemmas.List.Elements.{All-append, All-cons, All-nil}
use Rattle.ug_problem.specs.Instances.{Instance}
use Rattle.ug_problem.specs.Limits.{IsProblem}
use Rattle.ug_problem.specs.Feasible.{Feasible}
use Rattle.ug_problem.specs.Better.{IsGap, best_cutoff, cutoff_of}
use Rattle.ug_problem.proofs.Cutoffs.{cutoff_small}
use Rattle.ug_branch.specs.declared.params.Params.{Params}
use Rattle.ug_nodes.specs.declared.name.Name.{Name}
use Rattle.ug_nodes.specs.declared.name.Ticket.{Ticket}
use Rattle.ug_nodes.specs.Lines.{is_ancestor, line_name_at}
use Rattle.ug_nodes.specs.Names.{IsTicketBefore}
use Rattle.ug_pool.specs.declared.entry.Entry.{Entry}
use Rattle.ug_frames.specs.declared.order.Order.TheVariants.{Stop}
use Rattle.ug_frames.specs.Orders.{IsOrder}
use Rattle.ug_frames.specs.Ranges.{IsGiven, IsValue}
use Rattle.ug_frames.proofs.OfProblem.{changes_fit}
use Rattle.ug_ranks.specs.declared.state.Off.TheVariants.{Died}
use Rattle.ug_ranks.specs.declared.state.State.{State}
use Rattle.ug_ranks.specs.declared.state.State.TheVariants.{Absent, Idle, Racing, Active, Dead}
use Rattle.ug_ranks.specs.States.{state_at}
use Rattle.ug_ranks.specs.Looks.{is_joined, is_racing, ticket_at}
use Rattle.ug_ledger.specs.Ledgers.{Current, IsCurrent}
use Rattle.ug_ledger.specs.Sound.{AreTicketed}
use Rattle.ug_rules.specs.declared.told.Told.{Told}
use Rattle.ug_rules.specs.State.{BookState, current_for, current_of, ledger_of}
use Rattle.ug_rules.specs.Ranks.{of_ranks}
use Rattle.ug_rules.specs.Books.{AreOrders, HasItsFloor, IsBook}
use Rattle.ug_rules.specs.Deaths.{stop_at, stops_below}
use Rattle.ug_rules.specs.Deciding.{announcement, announcements, collect_in, collect_out, loser_stop, loser_stops, winner_order, work_order}
use Rattle.ug_rules.proofs.HeldLemmas.{is_current}
use Rattle.ug_rules.proofs.RacerLemmas.{are_racing}
use Rattle.ug_rules.proofs.WorkLemmas.{state_here, state_there}

abbrev Carried : Told → Type 0
Carried told = IsOrder told.order

-- ---- tickets

first_among : (line : List Name) → 0 < length line → Contains line (line_name_at line 0)
first_among [] some = absurd (omega (arith, some))
first_among (n ∷ line) some = (0, omega arith, refl)

number_by : (f t : Ticket) (run : ℕ) → IsTicketBefore f t → f.run ≡ run → t.run ≡ run
    → 1 ≤ t.number
number_by f t run (inl less) e g = absurd (omega (arith, less, e, g))
number_by f t run (inr both) e g = omega (arith, both.1)

-- a current ticket is after the first of its node's line, which is of the same run
given_by : (b : BookState) → 0 < b.run → AreTicketed (ledger_of b) → (r : ℕ) (c : Current)
    → IsCurrent (ledger_of b) r c → IsGiven c.ticket
given_by b some t r c h =
    let there = t.held r c h in
    let first = line_name_at c.node.line 0 in
    let among = first_among c.node.line (t.named.some c.node there) in
    let its = t.current r c h in
    record {
      run = omega (arith, its.run, some);
      number = number_by first.ticket c.ticket b.run (t.after r c h first among)
          (t.given c.node there first among).run its.run;
    }

entry_in : (raced : Option Entry) → IsSome raced → (entry : Entry) × (raced ≡ Some entry)
entry_in None h = absurd (false≢true h)
entry_in (Some entry) h = (entry, refl)

-- so each ticket of these states was given
abbrev AllGiven : List State → Type 0
AllGiven ss = (r : ℕ) (t : Ticket) → ticket_at (state_at ss r) ≡ Some t → IsGiven t

all_given : (b : BookState) → IsBook b → AllGiven b.ranks
all_given b h r t e = by (state_at b.ranks r) refl e
  where
    by : (s : State) → state_at b.ranks r ≡ s → ticket_at s ≡ Some t → IsGiven t
    by (Active work) is e = subst IsGiven (same_Some work.ticket t e)
        (given_by b h.run h.ledger.ticketed r (current_for work)
        (is_current b r (current_for work) (ap (current_of b.raced) is)))
    by (Racing racer) is e =
        let some = entry_in b.raced (h.race.racing (are_racing b.ranks (r, ap is_racing is))) in
        let c : Current = record { ticket = racer.ticket; node = some.0.node; taken = [] } in
        subst IsGiven (same_Some racer.ticket t e)
        (given_by b h.run h.ledger.ticketed r c
        (is_current b r c (ap (current_of b.raced) is
        ∙ ap (λ (o : Option Entry). current_of o (Racing racer)) some.1)))
    by Absent is e = absurd (none-some t e)
    by Idle is e = absurd (none-some t e)
    by (Dead how) is e = absurd (none-some t e)

with_one_dead : (ss : List State) (r : ℕ) → AllGiven ss → AllGiven (slice_set ss r (Dead Died))
with_one_dead ss r all q t e = elim (cases_eq q r) [
  | inl same ↦ elim (cases_lt r (length ss)) [
    | inl there ↦
        let at : state_at (slice_set ss r (Dead Died)) q ≡ Dead Died =
        ap (λ k. state_at (slice_set ss r (Dead Died)) k) same ∙ state_here ss r (Dead Died) there in
        absurd (none-some t (sym (ap ticket_at at) ∙ e))
    | inr past ↦ all q t
        (subst (λ (xs : List State). ticket_at (state_at xs q) ≡ Some t)
        (set_past ss r (Dead Died) past) e)
  ]
  | inr other ↦ all q t (sym (ap ticket_at (state_there ss r (Dead Died) q other)) ∙ e)
]

-- ---- lists of orders

none_told : AreOrders []
none_told = All-nil Carried

one_told : (told : Told) → IsOrder told.order → AreOrders (told ∷ [])
one_told told own = All-cons Carried told [] own none_told

of_each : (f : ℕ → State → List Told) (k : ℕ) (ss : List State)
    → ((j : ℕ) → j < length ss → AreOrders (f (k + j) (state_at ss j)))
    → AreOrders (of_ranks f k ss)
of_each f k [] each = none_told
of_each f k (s ∷ ss) each = All-append Carried (f k s) (of_ranks f (k + 1) ss)
    (subst (λ (n : ℕ). AreOrders (f n s)) (omega arith) (each 0 (omega arith)))
    (of_each f (k + 1) ss (λ j lt. subst (λ (n : ℕ). AreOrders (f n (state_at ss j))) (omega arith)
    (each (suc j) (omega (arith, lt)))))

-- ---- what each event reports

stops_carried : (ss : List State) (line : List Name) → AllGiven ss → AreOrders (stops_below line ss)
stops_carried ss line all = of_each (stop_at line) 0 ss (λ j lt. by (0 + j) j (state_at ss j) refl)
  where
    by : (n j : ℕ) (s : State) → state_at ss j ≡ s → AreOrders (stop_at line n s)
    by n j (Active work) is = elim (cases_Bool (is_ancestor line work.node.line)) [
      | inl below ↦ rw below (one_told (record { rank = n; order = Stop work.ticket })
          (record { given = all j work.ticket (ap ticket_at is); fields = tt }))
      | inr not ↦ rw not none_told
    ]
    by n j Absent is = none_told
    by n j Idle is = none_told
    by n j (Racing racer) is = none_told
    by n j (Dead how) is = none_told

-- if a rank that works was lost
pub dead_carried : (b : BookState) → IsBook b → (r : ℕ) (line : List Name)
    → AreOrders (b.orders ++ stops_below line (slice_set b.ranks r (Dead Died)))
dead_carried b h r line =
    let dead = slice_set b.ranks r (Dead Died) in
    All-append Carried b.orders (stops_below line dead) h.orders
    (stops_carried dead line (with_one_dead b.ranks r (all_given b h)))

losers_carried : (ss : List State) (winner : ℕ) → AllGiven ss → AreOrders (loser_stops winner ss)
losers_carried ss winner all = of_each (loser_stop winner) 0 ss (λ j lt. by (0 + j) j (state_at ss j) refl)
  where
    by : (n j : ℕ) (s : State) → state_at ss j ≡ s → AreOrders (loser_stop winner n s)
    by n j (Racing racer) is = elim (cases_Bool (n == winner)) [
      | inl won ↦ rw won none_told
      | inr lost ↦ rw lost (one_told (record { rank = n; order = Stop racer.ticket })
          (record { given = all j racer.ticket (ap ticket_at is); fields = tt }))
    ]
    by n j Absent is = none_told
    by n j Idle is = none_told
    by n j (Active work) is = none_told
    by n j (Dead how) is = none_told

-- if a race is won
pub won_carried : (b : BookState) → IsBook b → (rank : ℕ)
    → AreOrders (b.orders ++ winner_order rank (state_at b.ranks rank) ++ loser_stops rank b.ranks)
won_carried b h rank =
    let first = winner_order rank (state_at b.ranks rank) in
    All-append Carried (b.orders ++ first) (loser_stops rank b.ranks)
    (All-append Carried b.orders first h.orders (by (state_at b.ranks rank) refl))
    (losers_carried b.ranks rank (all_given b h))
  where
    by : (s : State) → state_at b.ranks rank ≡ s → AreOrders (winner_order rank s)
    by (Racing racer) is = one_told _
        (record { given = all_given b h rank racer.ticket (ap ticket_at is); fields = tt })
    by Absent is = none_told
    by Idle is = none_told
    by (Active work) is = none_told
    by (Dead how) is = none_told

-- a cutoff of an incumbent is within its range
pub cutoff_value : (p : Instance) (gap : ℤ) (best : Option (List ℤ)) → IsProblem p → IsGap gap
    → IfSome best (Feasible p) → IfSome (best_cutoff p gap best) IsValue
cutoff_value p gap None problem fits feasible = tt
cutoff_value p gap (Some x) problem fits feasible =
    cutoff_small p gap x (cutoff_of p gap x) problem fits refl feasible.inside

-- if it is announced
pub told_carried : (b : BookState) → IsBook b → (cutoff : ℤ) → IsValue cutoff
    → AreOrders (b.orders ++ announcements cutoff b.ranks)
told_carried b h cutoff small = All-append Carried b.orders (announcements cutoff b.ranks) h.orders
    (of_each (announcement cutoff) 0 b.ranks (λ j lt. by (0 + j) (state_at b.ranks j)))
  where
    by : (j : ℕ) (s : State) → AreOrders (announcement cutoff j s)
    by j s = elim (cases_Bool (is_joined s)) [
      | inl joined ↦ rw joined (one_told _ (record { given = tt; fields = small }))
      | inr not ↦ rw not none_told
    ]

-- if a node is given
pub given_carried : (b : BookState) → 0 < b.run → IsProblem b.problem → IsGap b.settings.gap
    → IfSome b.best (Feasible b.problem) → (r number : ℕ) (params : Params) (race : Bool)
    (entry : Entry) → 1 ≤ number → HasItsFloor b.problem entry → AreOrders b.orders
    → AreOrders (b.orders ++ work_order b r number params race entry ∷ [])
given_carried b some problem gap feasible r number params race entry first floor all =
    All-append Carried b.orders (work_order b r number params race entry ∷ []) all
    (one_told _ (record {
      given = record { run = some; number = first };
      fields = (
        cutoff_value b.problem b.settings.gap b.best problem gap feasible,
        changes_fit b.problem entry.node.changes problem floor.rising floor.changes,
      );
    }))

-- if it is reported of open nodes
pub in_carried : (b : BookState) → IsBook b → (r count : ℕ) → 1 ≤ count
    → AreOrders (b.orders ++ collect_in r count (state_at b.ranks r))
in_carried b h r count some = All-append Carried b.orders (collect_in r count (state_at b.ranks r))
    h.orders (by (state_at b.ranks r) refl)
  where
    by : (s : State) → state_at b.ranks r ≡ s → AreOrders (collect_in r count s)
    by (Active work) is = one_told _ (record {
      given = all_given b h r work.ticket (ap ticket_at is);
      fields = some;
    })
    by Absent is = none_told
    by Idle is = none_told
    by (Racing racer) is = none_told
    by (Dead how) is = none_told

pub out_carried : (b : BookState) → IsBook b → (r : ℕ)
    → AreOrders (b.orders ++ collect_out r (state_at b.ranks r))
out_carried b h r = All-append Carried b.orders (collect_out r (state_at b.ranks r))
    h.orders (by (state_at b.ranks r) refl)
  where
    by : (s : State) → state_at b.ranks r ≡ s → AreOrders (collect_out r s)
    by (Active work) is =
        one_told _ (record { given = all_given b h r work.ticket (ap ticket_at is); fields = tt })
    by Absent is = none_told
    by Idle is = none_told
    by (Racing racer) is = none_told
    by (Dead how) is = none_told
