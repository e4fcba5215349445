-- Decisions agree with the orders sent and the reports received.
use Rattle.std.proofs.Common.{◌≡◌, inl, inr, ℕ, zero, suc, ℤ, ◌+◌, Bool, true, false, List, [], ◌∷◌, ◌++◌, append_assoc, append-nil, length, Option, None, Some, refl, sym, ap, subst, ◌∙◌, arith}
use Rattle.std.specs.Prelude.{Contains, IfSome, IsSomeAnd, if◌then◌else◌, slice_set, ◌≤ℤ◌}
use Rattle.std.proofs.lemmas.Bool.{and_parts, cases_Bool, eqb-true}
use Rattle.std.proofs.lemmas.Int.{ints}
use Rattle.std.proofs.lemmas.List.Elements.{Contains-append_cases}
use Rattle.ug_nodes.specs.declared.name.Ticket.{Ticket}
use Rattle.ug_nodes.specs.declared.change.Change.{Change}
use Rattle.ug_branch.specs.declared.params.Params.{Params}
use Rattle.ug_pool.specs.declared.entry.Entry.{Entry}
use Rattle.ug_frames.specs.declared.order.Order.{Order}
use Rattle.ug_frames.specs.declared.order.Order.TheVariants.{Setup, Work as WorkOrder, Incumbent, CollectIn}
use Rattle.ug_frames.specs.declared.order.Order.TheVariants.{CollectOut, Winner, Stop, End}
use Rattle.ug_frames.specs.declared.report.Report.{Report}
use Rattle.ug_frames.specs.declared.report.Report.TheVariants as report
use Rattle.ug_ranks.specs.Changes.{asked_for, racer_of, won, work_of}
use Rattle.ug_ranks.specs.Looks.{is_idle, is_joined}
use Rattle.ug_ranks.specs.States.{state_at}
use Rattle.ug_ranks.specs.declared.state.State.{State}
use Rattle.ug_ranks.specs.declared.state.State.TheVariants.{Absent, Idle, Racing, Active, Dead}
use Rattle.ug_rules.specs.declared.demand.Wanted.{Wanted}
use Rattle.ug_rules.specs.declared.demand.Wanted.TheVariants.{Ask, Enough, Nothing}
use Rattle.ug_rules.specs.declared.told.Told.{Told}
use Rattle.ug_rules.specs.State.{BookState, cutoff_of_best, ticket_with}
use Rattle.ug_rules.specs.Deciding.{IsDecided, IsRaceEnded, IsReadied, announced, announced_as, announcement, announcements, assigned, assigned_by, assigned_times, collect_in, collect_out, collected, dropped, given, given_to, handouts, is_race_due, loser_stop, loser_stops, racer_params, usual_params, race_begun_with, race_won, raced_by, raced_by_all, ranks_won, same_cutoff, stopped_collecting, winner_order, work_order}
use Rattle.ug_rules.specs.Ranks.{of_ranks, racers_freed, ranks_that}
use Rattle.ug_serve.specs.Transcripts.{Ordered, order_of}
use Rattle.ug_serve.proofs.Counted.{hands_none}
use Rattle.ug_serve.proofs.Honesty.{nothing_in}
use Rattle.ug_serve.proofs.Told.{first_or}
use Rattle.ug_laws.proofs.Outlooks.{AreGoodOrders, AreNew, IsBacked, IsFurther, IsGivenNumber, IsGoodOrder, IsNewOrder, IsOn, IsOrderNamed, IsRacerOn, IsTracked, IsWorkOn, NoneWins, Outlook, freed_at, freed_on, named_on, orders_on, outlook_of, set_on, state_on, winner_on, work_on}

-- the states of a book, with all orders that left its queue or wait there, and what was received
abbrev pub IsTrackedBy : List Told → (ℕ → List Report) → BookState → Type 0
IsTrackedBy left heard b = IsTracked (outlook_of b) b.ranks (left ++ b.orders) heard

-- ---- orders

-- an order that gives no ticket, and makes none the winner's; its cutoff, if it names one, is
-- backed
pub record IsPlain (o : Outlook) (order : Order) : Type 0 where
  pub good : IsGoodOrder o order
  pub fresh : IsNewOrder o.last order
  pub wins : (ticket : Ticket) → order ≡ Winner ticket → ⊥

abbrev ArePlain : Outlook → List Told → Type 0
ArePlain o more = (told : Told) → Contains more told → IsPlain o told.order

abbrev kind_of : Order → ℕ
kind_of (Setup gap bytes) = 0
kind_of (WorkOrder ticket params race cutoff changes) = 1
kind_of (Incumbent cutoff) = 2
kind_of (CollectIn ticket count) = 3
kind_of (CollectOut ticket) = 4
kind_of (Winner ticket) = 5
kind_of (Stop ticket) = 6
kind_of End = 7

of_ranks_all : (P : Told → Type 0) (f : ℕ → State → List Told)
    → ((r : ℕ) (state : State) (told : Told) → Contains (f r state) told → P told) → (r : ℕ)
    (states : List State) (told : Told) → Contains (of_ranks f r states) told → P told
of_ranks_all P f each r [] told there = absurd (nothing_in told there)
of_ranks_all P f each r (state ∷ states) told there =
    elim (Contains-append_cases (f r state) (of_ranks f (r + 1) states) told there) [
      | inl own ↦ each r state told own
      | inr later ↦ of_ranks_all P f each (r + 1) states told later
    ]

only_one : (P : Told → Type 0) (one told : Told) → P one → Contains (one ∷ []) told → P told
only_one P one told its there = elim (first_or one [] told there) [
  | inl same ↦ subst P same its
  | inr none ↦ absurd (nothing_in told none)
]

one_where : (P : Told → Type 0) (b : Bool) (one told : Told) → P one
    → Contains (if b then one ∷ [] else []) told → P told
one_where P true one told its there = only_one P one told its there
one_where P false one told its there = absurd (nothing_in told there)

one_unless : (P : Told → Type 0) (b : Bool) (one told : Told) → P one
    → Contains (if b then [] else one ∷ []) told → P told
one_unless P true one told its there = absurd (nothing_in told there)
one_unless P false one told its there = only_one P one told its there

abbrev plain_at : Outlook → Told → Type 0
plain_at o told = IsPlain o told.order

stop_plain : (o : Outlook) (ticket : Ticket) → IsPlain o (Stop ticket)
stop_plain o ticket = record {
  good = record { backed = tt; named = tt };
  fresh = tt;
  wins = λ other same. omega (arith, ap kind_of same);
}

in_plain : (o : Outlook) (ticket : Ticket) (count : ℕ) → IsPlain o (CollectIn ticket count)
in_plain o ticket count = record {
  good = record { backed = tt; named = tt };
  fresh = tt;
  wins = λ other same. omega (arith, ap kind_of same);
}

out_plain : (o : Outlook) (ticket : Ticket) → IsPlain o (CollectOut ticket)
out_plain o ticket = record {
  good = record { backed = tt; named = tt };
  fresh = tt;
  wins = λ other same. omega (arith, ap kind_of same);
}

incumbent_plain : (o : Outlook) (cutoff : ℤ) → IsBacked o (Some cutoff) → IsPlain o (Incumbent cutoff)
incumbent_plain o cutoff backed = record {
  good = record { backed = backed; named = tt };
  fresh = tt;
  wins = λ other same. omega (arith, ap kind_of same);
}

loser_plain : (o : Outlook) (winner r : ℕ) (state : State) (told : Told)
    → Contains (loser_stop winner r state) told → IsPlain o told.order
loser_plain o winner r Absent told there = absurd (nothing_in told there)
loser_plain o winner r Idle told there = absurd (nothing_in told there)
loser_plain o winner r (Racing racer) told there =
    one_unless (plain_at o) _ (record { rank = r; order = Stop racer.ticket }) told (stop_plain o racer.ticket)
    there
loser_plain o winner r (Active work) told there = absurd (nothing_in told there)
loser_plain o winner r (Dead how) told there = absurd (nothing_in told there)

asked_plain : (o : Outlook) (r count : ℕ) (state : State) (told : Told)
    → Contains (collect_in r count state) told → IsPlain o told.order
asked_plain o r count Absent told there = absurd (nothing_in told there)
asked_plain o r count Idle told there = absurd (nothing_in told there)
asked_plain o r count (Racing racer) told there = absurd (nothing_in told there)
asked_plain o r count (Active work) told there =
    only_one (plain_at o) (record { rank = r; order = CollectIn work.ticket count }) told
    (in_plain o work.ticket count) there
asked_plain o r count (Dead how) told there = absurd (nothing_in told there)

enough_plain : (o : Outlook) (r : ℕ) (state : State) (told : Told) → Contains (collect_out r state) told
    → IsPlain o told.order
enough_plain o r Absent told there = absurd (nothing_in told there)
enough_plain o r Idle told there = absurd (nothing_in told there)
enough_plain o r (Racing racer) told there = absurd (nothing_in told there)
enough_plain o r (Active work) told there =
    only_one (plain_at o) (record { rank = r; order = CollectOut work.ticket }) told
    (out_plain o work.ticket) there
enough_plain o r (Dead how) told there = absurd (nothing_in told there)

itself : (best : Option ℤ) → IfSome best (λ v. IsSomeAnd best (λ least. least ≤ℤ v))
itself None = tt
itself (Some cutoff) = omega (arith, ints)

-- the incumbent's cutoff is backed
best_backed : (b : BookState) → IsBacked (outlook_of b) (cutoff_of_best b)
best_backed b = itself (cutoff_of_best b)

-- ---- states

asked_on : (o : Outlook) (all : List Told) (heard : List Report) (count : ℕ) (state : State)
    → IsOn o all heard state → IsOn o all heard (asked_for count state)
asked_on o all heard count Absent on = tt
asked_on o all heard count Idle on = tt
asked_on o all heard count (Racing racer) on = on
asked_on o all heard count (Active work) on = on
asked_on o all heard count (Dead how) on = tt

-- if no ticket was given no state has one
unused_on : (old new : Outlook) (all all_then : List Told) (heard : List Report) (state : State) → old.last ≡ 0
    → IsOn old all heard state → IsOn new all_then heard state
unused_on old new all all_then heard Absent none on = tt
unused_on old new all all_then heard Idle none on = tt
unused_on old new all all_then heard (Racing racer) none on =
    absurd (omega (arith, none, on.given.above, on.given.below))
unused_on old new all all_then heard (Active work) none on =
    absurd (omega (arith, none, on.given.above, on.given.below))
unused_on old new all all_then heard (Dead how) none on = tt

-- ---- an order of work under the next ticket

abbrev changes_in : Order → List Change
changes_in (WorkOrder ticket params race cutoff changes) = changes
changes_in order = []

abbrev races_in : Order → Bool
races_in (WorkOrder ticket params race cutoff changes) = race
races_in order = false

module _ (b : BookState) (left : List Told) (heard : ℕ → List Report) (t : IsTrackedBy left heard b)
    (r : ℕ) (params : Params) (race : Bool) (entry : Entry) where
  abbrev next_ticket : Ticket
  next_ticket = ticket_with b (b.last + 1)

  abbrev next_order : Told
  next_order = work_order b r (b.last + 1) params race entry

  abbrev all_then : List Told
  all_then = (left ++ b.orders) ++ next_order ∷ []

  next_good : (new : Outlook) → IsFurther (outlook_of b) new → new.last ≡ b.last + 1
      → AreGoodOrders new (next_order ∷ [])
  next_good new f last told there =
      only_one (λ (one : Told). IsGoodOrder new one.order) next_order told (record {
        backed = subst (λ (o : Outlook). IsBacked o (cutoff_of_best b)) (same_but new f) (best_backed b);
        named = omega (arith, last);
      }) there
    where
      same_but : (new : Outlook) (f : IsFurther (outlook_of b) new)
          → record (outlook_of b) { raced = new.raced; last = new.last } ≡ new
      same_but new f = (λ i. record {
        problem = sym f.problem i;
        gap = sym f.gap i;
        best = sym f.best i;
        raced = new.raced;
        last = new.last;
      })

  next_new : AreNew b.last (next_order ∷ [])
  next_new told there = only_one (λ (one : Told). IsNewOrder b.last one.order) next_order told (omega arith) there

  next_wins : (ticket : Ticket) → NoneWins (next_order ∷ []) ticket
  next_wins ticket told there same =
      only_one (λ (one : Told). one.order ≡ Winner ticket → ⊥) next_order told
      (λ own. omega (arith, ap kind_of own)) there same

  -- an order of work under it is this
  next_only : (told : Told) (work : Ordered) → Contains all_then told → told.order ≡ order_of work
      → work.ticket ≡ next_ticket → order_of work ≡ next_order.order
  next_only told work there its same =
      elim (Contains-append_cases (left ++ b.orders) (next_order ∷ []) told there) [
        | inl before ↦ absurd (omega (
          arith,
          subst (IsOrderNamed b.last) its (t.orders told before).named,
          ap (λ (k : Ticket). k.number) same,
        ))
        | inr later ↦
            only_one (λ (one : Told). one.order ≡ order_of work → order_of work ≡ next_order.order) next_order told
            (λ own. sym own) later its
      ]

  next_given : (new : Outlook) → new.last ≡ b.last + 1 → IsGivenNumber new next_ticket
  next_given new last = record { above = omega arith; below = omega (arith, last) }

  next_hands : (q : ℕ) (number : ℕ) (changes : List Change)
      → Contains (heard q) (report.Hand next_ticket number changes) → ⊥
  next_hands q number changes there = omega (arith, t.named q _ there)

  next_points : (q : ℕ) (x : List ℤ) → Contains (heard q) (report.Solution next_ticket x) → ⊥
  next_points q x there = omega (arith, t.named q _ there)

  next_work : (new : Outlook) → new.last ≡ b.last + 1 → (q : ℕ)
      → IsWorkOn new all_then (heard q) next_ticket entry.node.changes 0
  next_work new last q = record {
    given = next_given new last;
    node = λ told work there its same. ap changes_in (next_only told work there its same);
    hands = hands_none next_ticket (heard q) (next_hands q);
    points = λ x there. absurd (next_points q x there);
  }

  next_racer : (new : Outlook) → new.last ≡ b.last + 1 → new.raced ≡ Some entry → race ≡ true → (q : ℕ)
      → IsRacerOn new all_then (heard q) next_ticket
  next_racer new last raced races q = record {
    given = next_given new last;
    race = λ told work there its same. ap races_in (next_only told work there its same) ∙ races;
    node = λ told work there its same.
        subst (λ (e : Option Entry). IfSome e (λ one. work.changes ≡ one.node.changes)) (sym raced)
        (ap changes_in (next_only told work there its same));
    not_won = λ told there its.
        elim (Contains-append_cases (left ++ b.orders) (next_order ∷ []) told there) [
          | inl before ↦ omega (arith, subst (IsOrderNamed b.last) its (t.orders told before).named)
          | inr later ↦ next_wins next_ticket told later its
        ];
    none = hands_none next_ticket (heard q) (next_hands q);
    points = λ x there. absurd (next_points q x there);
  }

-- ---- a decision, part by part

further_itself : (o : Outlook) → IsFurther o o
further_itself o = record { problem = refl; gap = refl; best = refl; last = omega arith }

module _ (left : List Told) (heard : ℕ → List Report) where
  abbrev Is : BookState → Type 0
  Is b = IsTrackedBy left heard b

  -- with more orders
  tracked_more : (old new : BookState) (more : List Told) → new.orders ≡ old.orders ++ more
      → IsFurther (outlook_of old) (outlook_of new) → AreGoodOrders (outlook_of new) more
      → ((rank : ℕ) → IsOn (outlook_of new) ((left ++ old.orders) ++ more) (heard rank) (state_at new.ranks rank))
      → Is old → Is new
  tracked_more old new more orders f good on t =
      let same : (left ++ old.orders) ++ more ≡ left ++ new.orders =
      append_assoc left old.orders more ∙ ap (λ (os : List Told). left ++ os) (sym orders) in
      record {
        orders = subst (AreGoodOrders (outlook_of new)) same
            (orders_on (outlook_of old) (outlook_of new) f (left ++ old.orders) more t.orders good);
        named = λ rank. named_on (outlook_of old) (outlook_of new) f (heard rank) (t.named rank);
        on = λ rank. subst (λ (all : List Told). IsOn (outlook_of new) all (heard rank) (state_at new.ranks rank)) same
            (on rank);
      }

  -- with plain ones, where the outlook is the same
  plain_more : (old new : BookState) (more : List Told) → new.orders ≡ old.orders ++ more
      → outlook_of new ≡ outlook_of old → ArePlain (outlook_of old) more
      → ((rank : ℕ) → IsOn (outlook_of old) ((left ++ old.orders) ++ more) (heard rank) (state_at old.ranks rank)
      → IsOn (outlook_of old) ((left ++ old.orders) ++ more) (heard rank) (state_at new.ranks rank))
      → Is old → Is new
  plain_more old new more orders same plain each t =
      let o = outlook_of old in
      let all = left ++ old.orders in
      tracked_more old new more orders
      (subst (IsFurther o) (sym same) (further_itself o))
      (subst (λ (n : Outlook). AreGoodOrders n more) (sym same) (λ told there. (plain told there).good))
      (λ rank. subst (λ (n : Outlook). IsOn n (all ++ more) (heard rank) (state_at new.ranks rank)) (sym same)
      (each rank (state_on o o (further_itself o) all more (λ told there. (plain told there).fresh) (heard rank)
      (state_at old.ranks rank) refl (λ ticket told there its. (plain told there).wins ticket its) (t.on rank)))) t

  announced_so : (cutoff : Option ℤ) (b : BookState) → cutoff_of_best b ≡ cutoff → Is b → Is (announced_as cutoff b)
  announced_so None b same t = t
  announced_so (Some cutoff) b same t = by (same_cutoff b.announced cutoff)
    where
      backed : IsBacked (outlook_of b) (Some cutoff)
      backed = subst (λ (c : Option ℤ). IsBacked (outlook_of b) c) same (best_backed b)

      by : (known : Bool) → Is (if known
          then b
          else record b { orders = b.orders ++ announcements cutoff b.ranks; announced = Some cutoff })
      by true = t
      by false = plain_more b
          (record b { orders = b.orders ++ announcements cutoff b.ranks; announced = Some cutoff })
          (announcements cutoff b.ranks) refl refl
          (of_ranks_all (plain_at (outlook_of b)) (announcement cutoff)
          (λ r state told there. one_where (plain_at (outlook_of b)) (is_joined state)
          (record { rank = r; order = Incumbent cutoff }) told (incumbent_plain (outlook_of b) cutoff backed) there)
          0 b.ranks) (λ rank on. on) t

  -- ---- the end of a race

  module _ (winner : ℕ) (b : BookState) (t : Is b) where
    abbrev o : Outlook
    o = outlook_of b

    abbrev o_then : Outlook
    o_then = record (outlook_of b) { raced = None }

    abbrev all : List Told
    all = left ++ b.orders

    abbrev more : List Told
    more = winner_order winner (state_at b.ranks winner) ++ loser_stops winner b.ranks

    further : IsFurther o o_then
    further = record { problem = refl; gap = refl; best = refl; last = omega arith }

    -- the order that says who won
    told_good : (state : State) → IsOn o all (heard winner) state → (told : Told)
        → Contains (winner_order winner state) told
        → IsGoodOrder o_then told.order × IsNewOrder b.last told.order
    told_good Absent on told there = absurd (nothing_in told there)
    told_good Idle on told there = absurd (nothing_in told there)
    told_good (Racing racer) on told there =
        only_one (λ (one : Told). IsGoodOrder o_then one.order × IsNewOrder b.last one.order)
        (record { rank = winner; order = Winner racer.ticket }) told
        (record { backed = tt; named = on.given.below }, tt) there
    told_good (Active work) on told there = absurd (nothing_in told there)
    told_good (Dead how) on told there = absurd (nothing_in told there)

    more_good : (told : Told) → Contains more told → IsGoodOrder o_then told.order × IsNewOrder b.last told.order
    more_good told there =
        elim (Contains-append_cases (winner_order winner (state_at b.ranks winner)) (loser_stops winner b.ranks) told
        there) [
          | inl own ↦ told_good (state_at b.ranks winner) (t.on winner) told own
          | inr stop ↦
              let plain = of_ranks_all (plain_at o_then) (loser_stop winner) (loser_plain o_then winner) 0 b.ranks told
              stop in
              (plain.good, plain.fresh)
        ]

    freed_then : (rank : ℕ) → IsOn o_then (all ++ more) (heard rank) (state_at (racers_freed b.ranks) rank)
    freed_then rank =
        subst (IsOn o_then (all ++ more) (heard rank)) (sym (freed_at b.ranks rank))
        (freed_on o o_then further all more (λ told there. (more_good told there).1) (heard rank)
        (state_at b.ranks rank) (t.on rank))

    won_state : (entry : Entry) (state : State) → b.raced ≡ Some entry → IsOn o all (heard winner) state
        → IsOn o_then (all ++ more) (heard winner) (won entry.node entry.floor state)
    won_state entry Absent raced on = tt
    won_state entry Idle raced on = tt
    won_state entry (Racing racer) raced on =
        winner_on o o_then further all more (λ told there. (more_good told there).1) (heard winner) racer.ticket entry
        raced on
    won_state entry (Active work) raced on =
        work_on o o_then further all more (λ told there. (more_good told there).1) (heard winner) work.ticket
        work.node.changes (length work.taken) on
    won_state entry (Dead how) raced on = tt

    won_then : (raced : Option Entry) → b.raced ≡ raced → (rank : ℕ)
        → IsOn o_then (all ++ more) (heard rank) (state_at (ranks_won winner raced b.ranks) rank)
    won_then None same rank = freed_then rank
    won_then (Some entry) same rank =
        set_on (IsOn o_then (all ++ more) (heard rank)) (racers_freed b.ranks) winner
        (won entry.node entry.floor (state_at b.ranks winner)) rank
        (λ its. subst (λ (q : ℕ). IsOn o_then (all ++ more) (heard q) (won entry.node entry.floor
        (state_at b.ranks winner))) its (won_state entry (state_at b.ranks winner) same (t.on winner)))
        (freed_then rank)

    race_won_so : Is (race_won winner b)
    race_won_so =
        tracked_more b (race_won winner b) more
        (append_assoc b.orders (winner_order winner (state_at b.ranks winner)) (loser_stops winner b.ranks)) further
        (λ told there. (more_good told there).0) (won_then b.raced refl) t

  ended_so : (old new : BookState) → IsRaceEnded old new → Is old → Is new
  ended_so old new (inl (rank, won)) t = subst Is (sym won.done) (race_won_so rank old t)
  ended_so old new (inr none) t = subst Is (sym none.same) t

  -- ---- tickets given

  given_so : (r : ℕ) (entry : Entry) (rest : List Entry) (b : BookState) → Is b → Is (given_to r entry rest b)
  given_so r entry rest b t =
      let new = given_to r entry rest b in
      let more = work_order b r (b.last + 1) (usual_params b) false entry ∷ [] in
      let further : IsFurther (outlook_of b) (outlook_of new) =
      record { problem = refl; gap = refl; best = refl; last = omega arith } in
      tracked_more b new more refl further
      (next_good b left heard t r (usual_params b) false entry (outlook_of new) further refl)
      (λ rank. set_on (IsOn (outlook_of new) ((left ++ b.orders) ++ more) (heard rank)) b.ranks r
      (Active (work_of (ticket_with b (b.last + 1)) entry.node entry.floor (usual_params b))) rank
      (λ its. next_work b left heard t r (usual_params b) false entry (outlook_of new) refl rank)
      (state_on (outlook_of b) (outlook_of new) further (left ++ b.orders) more
      (next_new b left heard t r (usual_params b) false entry) (heard rank) (state_at b.ranks rank) refl
      (next_wins b left heard t r (usual_params b) false entry) (t.on rank))) t

  assigned_so : (ranks : List ℕ) (pool : List Entry) (b : BookState) → Is b → Is (assigned_by ranks pool b)
  assigned_so [] pool b t = t
  assigned_so (r ∷ ranks) [] b t = t
  assigned_so (r ∷ ranks) (entry ∷ rest) b t = given_so r entry rest b t

  times_so : (n : ℕ) (b : BookState) → Is b → Is (assigned_times n b)
  times_so zero b t = t
  times_so (suc n) b t = times_so n (assigned b) (assigned_so (ranks_that is_idle b.ranks) b.pool b t)

  raced_so : (r : ℕ) (entry : Entry) (b : BookState) → b.raced ≡ Some entry → Is b → Is (raced_by r entry b)
  raced_so r entry b raced t =
      let new = raced_by r entry b in
      let params = racer_params r in
      let more = work_order b r (b.last + 1) params true entry ∷ [] in
      let further : IsFurther (outlook_of b) (outlook_of new) =
      record { problem = refl; gap = refl; best = refl; last = omega arith } in
      tracked_more b new more refl further
      (next_good b left heard t r params true entry (outlook_of new) further refl)
      (λ rank. set_on (IsOn (outlook_of new) ((left ++ b.orders) ++ more) (heard rank)) b.ranks r
      (Racing (racer_of (ticket_with b (b.last + 1)) params)) rank
      (λ its. next_racer b left heard t r params true entry (outlook_of new) refl raced refl rank)
      (state_on (outlook_of b) (outlook_of new) further (left ++ b.orders) more
      (next_new b left heard t r params true entry) (heard rank) (state_at b.ranks rank) refl
      (next_wins b left heard t r params true entry) (t.on rank))) t

  raced_all_so : (ranks : List ℕ) (entry : Entry) (b : BookState) → b.raced ≡ Some entry → Is b
      → Is (raced_by_all ranks entry b)
  raced_all_so [] entry b raced t = t
  raced_all_so (r ∷ ranks) entry b raced t =
      raced_all_so ranks entry (raced_by r entry b) raced (raced_so r entry b raced t)

  begun_so : (pool : List Entry) (b : BookState) → b.last ≡ 0 → Is b → Is (race_begun_with pool b)
  begun_so [] b none t = t
  begun_so (entry ∷ rest) b none t =
      let moved : BookState = record b { pool = rest; raced = Some entry } in
      raced_all_so (ranks_that is_idle b.ranks) entry moved refl
      (tracked_more b moved [] (sym (append-nil b.orders))
      (record { problem = refl; gap = refl; best = refl; last = omega arith })
      (λ told there. absurd (nothing_in told there))
      (λ rank. unused_on (outlook_of b) (outlook_of moved) (left ++ b.orders) ((left ++ b.orders) ++ []) (heard rank)
      (state_at b.ranks rank) none (t.on rank)) t)

  none_given : (b : BookState) → is_race_due b ≡ true → b.last ≡ 0
  none_given b due =
      let set = (and_parts _ _ due).0 in
      let unused = (and_parts _ _ (and_parts _ _ set).1).0 in
      eqb-true b.last 0 unused

  handed_out_so : (n : ℕ) (b : BookState) → Is b → Is (given n b)
  handed_out_so zero b t = t
  handed_out_so (suc n) b t = elim (cases_Bool (is_race_due b)) [
    | inl due ↦ rw due (begun_so b.pool b (none_given b due) t)
    | inr none ↦ rw none (times_so (suc n) b t)
  ]

  -- ---- hands wanted

  asked_so : (r count : ℕ) (more : List Told) (b : BookState) → ArePlain (outlook_of b) more → Is b
      → Is (record b {
        ranks = slice_set b.ranks r (asked_for count (state_at b.ranks r));
        orders = b.orders ++ more;
      })
  asked_so r count more b plain t =
      plain_more b (record b {
        ranks = slice_set b.ranks r (asked_for count (state_at b.ranks r));
        orders = b.orders ++ more;
      }) more refl refl plain
      (λ rank on. set_on (IsOn (outlook_of b) ((left ++ b.orders) ++ more) (heard rank)) b.ranks r
      (asked_for count (state_at b.ranks r)) rank
      (λ its. subst (λ (q : ℕ). IsOn (outlook_of b) ((left ++ b.orders) ++ more) (heard rank)
      (asked_for count (state_at b.ranks q))) (sym its)
      (asked_on (outlook_of b) ((left ++ b.orders) ++ more) (heard rank) count (state_at b.ranks rank) on)) on) t

  enough_so : (ranks : List ℕ) (b : BookState) → Is b → Is (stopped_collecting ranks b)
  enough_so [] b t = t
  enough_so (r ∷ ranks) b t =
      enough_so ranks (record b {
        ranks = slice_set b.ranks r (asked_for 0 (state_at b.ranks r));
        orders = b.orders ++ collect_out r (state_at b.ranks r);
      })
      (asked_so r 0 (collect_out r (state_at b.ranks r)) b
      (enough_plain (outlook_of b) r (state_at b.ranks r)) t)

  collected_so : (wanted : Wanted) (b : BookState) → Is b → Is (collected wanted b)
  collected_so (Ask r count) b t =
      asked_so r count (collect_in r count (state_at b.ranks r)) b
      (asked_plain (outlook_of b) r count (state_at b.ranks r)) t
  collected_so (Enough ranks) b t = enough_so ranks b t
  collected_so Nothing b t = t

  readied_so : (old ready : BookState) → IsReadied old ready → Is old → Is ready
  readied_so old ready readied t =
      ended_so (announced (dropped old)) ready readied
      (announced_so (cutoff_of_best (dropped old)) (dropped old) refl t)

  pub decided_so : (old new : BookState) → IsDecided old new → Is old → Is new
  decided_so old new is t =
      subst Is (sym is.collected_.done)
      (collected_so is.collected_.demand (given (handouts is.ready) is.ready)
      (handed_out_so (handouts is.ready) is.ready (readied_so old is.ready is.readied t)))
