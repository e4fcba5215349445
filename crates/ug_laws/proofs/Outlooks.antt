-- What the orders sent and the reports received from a rank say of its ticket.
use Rattle.std.proofs.Common.{◌≡◌, inl, inr, ℕ, zero, suc, ℤ, ◌<◌, ◌≤◌, true, List, [], ◌∷◌, ◌++◌, length, Option, Some, refl, sym, ap, subst, arith}
use Rattle.std.specs.Prelude.{Contains, IfSome, if◌then◌else◌, slice_set}
use Rattle.std.proofs.lemmas.List.Elements.{Contains-append_cases}
use Rattle.ug_problem.specs.Better.{cutoff_of}
use Rattle.ug_problem.specs.Instances.{Instance}
use Rattle.ug_nodes.specs.declared.name.Ticket.{Ticket}
use Rattle.ug_nodes.specs.declared.change.Change.{Change}
use Rattle.ug_pool.specs.declared.entry.Entry.{Entry}
use Rattle.ug_frames.specs.declared.order.Order.{Order}
use Rattle.ug_frames.specs.declared.order.Order.TheVariants.{Setup, Work as WorkOrder, Incumbent, CollectIn}
use Rattle.ug_frames.specs.declared.order.Order.TheVariants.{CollectOut, Winner, Stop, End}
use Rattle.ug_frames.specs.declared.report.Report.{Report}
use Rattle.ug_frames.specs.declared.report.Report.TheVariants.{Ready, Solution, Hand, State as Reported, Done, Ended}
use Rattle.ug_ranks.specs.declared.state.State.{State}
use Rattle.ug_ranks.specs.declared.state.State.TheVariants.{Absent, Idle, Racing, Active, Dead}
use Rattle.ug_ranks.specs.Looks.{is_racing}
use Rattle.ug_ranks.specs.States.{state_at}
use Rattle.ug_ledger.specs.Dones.{IsBackedBy}
use Rattle.ug_rules.specs.declared.told.Told.{Told}
use Rattle.ug_rules.specs.Ranks.{racers_freed}
use Rattle.ug_rules.specs.State.{BookState}
use Rattle.ug_serve.specs.Transcripts.{Ordered, order_of}
use Rattle.ug_serve.proofs.Counted.{hands_under}

-- what matters of a book here
pub record Outlook : Type 0 where
  pub problem : Instance
  pub gap : ℤ
  pub best : Option (List ℤ)
  pub raced : Option Entry
  pub last : ℕ

abbrev pub outlook_of : BookState → Outlook
outlook_of b = record {
  problem = b.problem;
  gap = b.settings.gap;
  best = b.best;
  raced = b.raced;
  last = b.last;
}

-- the cutoff, if there is one, is at least the incumbent's
abbrev pub IsBacked : Outlook → Option ℤ → Type 0
IsBacked o cutoff = IsBackedBy o.problem o.gap o.best cutoff

-- the cutoff that an order names is backed
abbrev pub IsOrderBacked : Outlook → Order → Type 0
IsOrderBacked o (WorkOrder ticket params race cutoff changes) = IsBacked o cutoff
IsOrderBacked o (Incumbent cutoff) = IsBacked o (Some cutoff)
IsOrderBacked o order = Unit {0}

-- the ticket that an order gives, or makes the winner's, was given
abbrev pub IsOrderNamed : ℕ → Order → Type 0
IsOrderNamed last (WorkOrder ticket params race cutoff changes) = ticket.number ≤ last
IsOrderNamed last (Winner ticket) = ticket.number ≤ last
IsOrderNamed last order = Unit {0}

pub record IsGoodOrder (o : Outlook) (order : Order) : Type 0 where
  pub backed : IsOrderBacked o order
  pub named : IsOrderNamed o.last order

abbrev pub AreGoodOrders : Outlook → List Told → Type 0
AreGoodOrders o all = (told : Told) → Contains all told → IsGoodOrder o told.order

-- so was the ticket of a point or a hand
abbrev pub IsReportNamed : ℕ → Report → Type 0
IsReportNamed last (Solution ticket x) = ticket.number ≤ last
IsReportNamed last (Hand ticket number changes) = ticket.number ≤ last
IsReportNamed last report = Unit {0}

abbrev pub AreNamed : ℕ → List Report → Type 0
AreNamed last heard = (report : Report) → Contains heard report → IsReportNamed last report

-- the cutoff of each point that was received under the ticket is backed
abbrev pub ArePointsBacked : Outlook → List Report → Ticket → Type 0
ArePointsBacked o heard ticket = (x : List ℤ) → Contains heard (Solution ticket x)
    → IsBacked o (Some (cutoff_of o.problem o.gap x))

-- the ticket was given
pub record IsGivenNumber (o : Outlook) (ticket : Ticket) : Type 0 where
  pub above : 0 < ticket.number
  pub below : ticket.number ≤ o.last

-- The rank takes part in a race: each order of work under its ticket says so and gives the raced
-- node. The race was not won by it, and no hand was received under the ticket.
pub record IsRacerOn (o : Outlook) (all : List Told) (heard : List Report) (ticket : Ticket) : Type 0 where
  pub given : IsGivenNumber o ticket
  pub race : (told : Told) (work : Ordered) → Contains all told → told.order ≡ order_of work
      → work.ticket ≡ ticket → work.race ≡ true
  pub node : (told : Told) (work : Ordered) → Contains all told → told.order ≡ order_of work
      → work.ticket ≡ ticket → IfSome o.raced (λ entry. work.changes ≡ entry.node.changes)
  pub not_won : (told : Told) → Contains all told → told.order ≡ Winner ticket → ⊥
  pub none : hands_under ticket heard ≡ 0
  pub points : ArePointsBacked o heard ticket

-- The rank works: each order of work under its ticket gives its node, and as many hands were taken
-- as were received.
pub record IsWorkOn (o : Outlook) (all : List Told) (heard : List Report) (ticket : Ticket)
    (changes : List Change) (taken : ℕ) : Type 0 where
  pub given : IsGivenNumber o ticket
  pub node : (told : Told) (work : Ordered) → Contains all told → told.order ≡ order_of work
      → work.ticket ≡ ticket → work.changes ≡ changes
  pub hands : hands_under ticket heard ≡ taken
  pub points : ArePointsBacked o heard ticket

abbrev pub IsOn : Outlook → List Told → List Report → State → Type 0
IsOn o all heard Absent = Unit {0}
IsOn o all heard Idle = Unit {0}
IsOn o all heard (Racing racer) = IsRacerOn o all heard racer.ticket
IsOn o all heard (Active work) = IsWorkOn o all heard work.ticket work.node.changes (length work.taken)
IsOn o all heard (Dead how) = Unit {0}

-- All orders that were ever queued, and what was received from each rank, agree with the ranks'
-- states.
pub record IsTracked (o : Outlook) (states : List State) (all : List Told) (heard : ℕ → List Report)
    : Type 0 where
  pub orders : AreGoodOrders o all
  pub named : (rank : ℕ) → AreNamed o.last (heard rank)
  pub on : (rank : ℕ) → IsOn o all (heard rank) (state_at states rank)

-- ---- lists of states

-- for a list in which one state was set: what holds of that where it stands, and of the others
pub set_on : (P : State → Type 0) (states : List State) (at : ℕ) (state : State) (rank : ℕ)
    → (at ≡ rank → P state) → P (state_at states rank) → P (state_at (slice_set states at state) rank)
set_on P [] at state rank its was = was
set_on P (first ∷ states) zero state zero its was = its refl
set_on P (first ∷ states) zero state (suc rank) its was = was
set_on P (first ∷ states) (suc at) state zero its was = was
set_on P (first ∷ states) (suc at) state (suc rank) its was =
    set_on P states at state rank (λ same. its (ap suc same)) was

abbrev pub freed : State → State
freed state = if is_racing state then Idle else state

pub freed_at : (states : List State) (rank : ℕ) → state_at (racers_freed states) rank ≡ freed (state_at states rank)
freed_at [] rank = refl
freed_at (first ∷ states) zero = refl
freed_at (first ∷ states) (suc rank) = freed_at states rank

-- ---- with more orders

-- nothing but the last ticket changed, which is no less
pub record IsFurther (old new : Outlook) : Type 0 where
  pub problem : new.problem ≡ old.problem
  pub gap : new.gap ≡ old.gap
  pub best : new.best ≡ old.best
  pub last : old.last ≤ new.last

-- the order gives a new ticket, if it gives one
abbrev pub IsNewOrder : ℕ → Order → Type 0
IsNewOrder last (WorkOrder ticket params race cutoff changes) = last < ticket.number
IsNewOrder last order = Unit {0}

abbrev pub AreNew : ℕ → List Told → Type 0
AreNew last more = (told : Told) → Contains more told → IsNewOrder last told.order

-- none of the orders says that the ticket has won
abbrev pub NoneWins : List Told → Ticket → Type 0
NoneWins more ticket = (told : Told) → Contains more told → told.order ≡ Winner ticket → ⊥

new_work : (last : ℕ) (order : Order) (work : Ordered) → IsNewOrder last order → order ≡ order_of work
    → last < work.ticket.number
new_work last order work fresh its = subst (IsNewOrder last) its fresh

module _ (old new : Outlook) (f : IsFurther old new) where
  same_backing : (cutoff : Option ℤ) → IsBacked old cutoff → IsBacked new cutoff
  same_backing cutoff backed =
      subst (λ (p : Instance). IsBackedBy p new.gap new.best cutoff) (sym f.problem)
      (subst (λ (g : ℤ). IsBackedBy old.problem g new.best cutoff) (sym f.gap)
      (subst (λ (x : Option (List ℤ)). IsBackedBy old.problem old.gap x cutoff) (sym f.best) backed))

  given_on : (ticket : Ticket) → IsGivenNumber old ticket → IsGivenNumber new ticket
  given_on ticket g = record { above = g.above; below = omega (arith, g.below, f.last) }

  points_on : (heard : List Report) (ticket : Ticket) → ArePointsBacked old heard ticket
      → ArePointsBacked new heard ticket
  points_on heard ticket points x there =
      subst (λ (p : Instance). IsBacked new (Some (cutoff_of p new.gap x))) (sym f.problem)
      (subst (λ (g : ℤ). IsBacked new (Some (cutoff_of old.problem g x))) (sym f.gap)
      (same_backing (Some (cutoff_of old.problem old.gap x)) (points x there)))

  order_backed : (order : Order) → IsOrderBacked old order → IsOrderBacked new order
  order_backed (Setup gap bytes) backed = tt
  order_backed (WorkOrder ticket params race cutoff changes) backed = same_backing cutoff backed
  order_backed (Incumbent cutoff) backed = same_backing (Some cutoff) backed
  order_backed (CollectIn ticket count) backed = tt
  order_backed (CollectOut ticket) backed = tt
  order_backed (Winner ticket) backed = tt
  order_backed (Stop ticket) backed = tt
  order_backed End backed = tt

  order_named : (order : Order) → IsOrderNamed old.last order → IsOrderNamed new.last order
  order_named (Setup gap bytes) named = tt
  order_named (WorkOrder ticket params race cutoff changes) named = omega (arith, named, f.last)
  order_named (Incumbent cutoff) named = tt
  order_named (CollectIn ticket count) named = tt
  order_named (CollectOut ticket) named = tt
  order_named (Winner ticket) named = omega (arith, named, f.last)
  order_named (Stop ticket) named = tt
  order_named End named = tt

  report_named : (report : Report) → IsReportNamed old.last report → IsReportNamed new.last report
  report_named Ready named = tt
  report_named (Solution ticket x) named = omega (arith, named, f.last)
  report_named (Hand ticket number changes) named = omega (arith, named, f.last)
  report_named (Reported ticket count floor) named = tt
  report_named (Done ticket told count ending) named = tt
  report_named Ended named = tt

  pub orders_on : (all more : List Told) → AreGoodOrders old all → AreGoodOrders new more
      → AreGoodOrders new (all ++ more)
  orders_on all more good fine told there = elim (Contains-append_cases all more told there) [
    | inl before ↦
        let was = good told before in
        record {
          backed = order_backed told.order was.backed;
          named = order_named told.order was.named;
        }
    | inr later ↦ fine told later
  ]

  pub named_on : (heard : List Report) → AreNamed old.last heard → AreNamed new.last heard
  named_on heard named report there = report_named report (named report there)

  module _ (all more : List Told) (fresh : AreNew old.last more) (heard : List Report) where
    -- an order of work under a ticket that was given is not a new one
    was_told : (told : Told) (work : Ordered) (ticket : Ticket) → IsGivenNumber old ticket
        → Contains (all ++ more) told → told.order ≡ order_of work → work.ticket ≡ ticket → Contains all told
    was_told told work ticket g there its same = elim (Contains-append_cases all more told there) [
      | inl before ↦ before
      | inr later ↦ absurd (omega (
        arith,
        new_work old.last told.order work (fresh told later) its,
        g.below,
        ap (λ (t : Ticket). t.number) same,
      ))
    ]

    racer_on : (ticket : Ticket) → new.raced ≡ old.raced → NoneWins more ticket
        → IsRacerOn old all heard ticket → IsRacerOn new (all ++ more) heard ticket
    racer_on ticket raced wins on = record {
      given = given_on ticket on.given;
      race = λ told work there its same.
          on.race told work (was_told told work ticket on.given there its same) its same;
      node = λ told work there its same.
          subst (λ (r : Option Entry). IfSome r (λ entry. work.changes ≡ entry.node.changes)) (sym raced)
          (on.node told work (was_told told work ticket on.given there its same) its same);
      not_won = λ told there its. elim (Contains-append_cases all more told there) [
        | inl before ↦ on.not_won told before its
        | inr later ↦ wins told later its
      ];
      none = on.none;
      points = points_on heard ticket on.points;
    }

    pub work_on : (ticket : Ticket) (changes : List Change) (taken : ℕ)
        → IsWorkOn old all heard ticket changes taken → IsWorkOn new (all ++ more) heard ticket changes taken
    work_on ticket changes taken on = record {
      given = given_on ticket on.given;
      node = λ told work there its same.
          on.node told work (was_told told work ticket on.given there its same) its same;
      hands = on.hands;
      points = points_on heard ticket on.points;
    }

    -- the race was won under this ticket, so the raced node is the rank's own
    pub winner_on : (ticket : Ticket) (entry : Entry) → old.raced ≡ Some entry
        → IsRacerOn old all heard ticket → IsWorkOn new (all ++ more) heard ticket entry.node.changes 0
    winner_on ticket entry raced on = record {
      given = given_on ticket on.given;
      node = λ told work there its same.
          subst (λ (r : Option Entry). IfSome r (λ e. work.changes ≡ e.node.changes)) raced
          (on.node told work (was_told told work ticket on.given there its same) its same);
      hands = on.none;
      points = points_on heard ticket on.points;
    }

    pub state_on : (state : State) → new.raced ≡ old.raced → ((ticket : Ticket) → NoneWins more ticket)
        → IsOn old all heard state → IsOn new (all ++ more) heard state
    state_on Absent raced wins on = tt
    state_on Idle raced wins on = tt
    state_on (Racing racer) raced wins on = racer_on racer.ticket raced (wins racer.ticket) on
    state_on (Active work) raced wins on = work_on work.ticket work.node.changes (length work.taken) on
    state_on (Dead how) raced wins on = tt

    -- a racer is freed
    pub freed_on : (state : State) → IsOn old all heard state → IsOn new (all ++ more) heard (freed state)
    freed_on Absent on = tt
    freed_on Idle on = tt
    freed_on (Racing racer) on = tt
    freed_on (Active work) on = work_on work.ticket work.node.changes (length work.taken) on
    freed_on (Dead how) on = tt
