-- The numbers of the tickets under which work is ordered rise, whatever happens to a book.
use Rattle.std.proofs.Common.{◌≡◌, inl, inr, ℕ, ℤ, zero, suc, ◌+◌, ◌<◌, ◌≤◌, Bool, true, false, List, [], ◌∷◌, ◌++◌, append_assoc, append-nil, refl, sym, ap, subst, ◌∙◌, arith}
use Rattle.std.specs.Prelude.{Option, Some, None, if◌then◌else◌}
use Rattle.std.proofs.lemmas.Bool.{cases_Bool}
use Rattle.ug_nodes.specs.declared.name.Name.{Name}
use Rattle.ug_nodes.specs.declared.change.Change.{Change}
use Rattle.ug_nodes.specs.Lines.{is_ancestor}
use Rattle.ug_pool.specs.declared.entry.Entry.{Entry}
use Rattle.ug_frames.specs.declared.order.Order.{Order}
use Rattle.ug_frames.specs.declared.order.Order.TheVariants.{Setup, Work as WorkOrder, Incumbent, CollectIn}
use Rattle.ug_frames.specs.declared.order.Order.TheVariants.{CollectOut, Winner, Stop, End}
use Rattle.ug_frames.specs.declared.report.Report.{Report}
use Rattle.ug_frames.specs.declared.report.Report.TheVariants.{Ready, Solution, Hand, State as Reported, Done, Ended}
use Rattle.ug_ranks.specs.declared.state.State.{State}
use Rattle.ug_ranks.specs.declared.state.State.TheVariants.{Absent, Idle, Racing, Active, Dead}
use Rattle.ug_ranks.specs.States.{state_at}
use Rattle.ug_ranks.specs.Looks.{is_idle, is_joined, is_racing}
use Rattle.ug_rules.specs.declared.demand.Wanted.{Wanted}
use Rattle.ug_rules.specs.declared.demand.Wanted.TheVariants.{Ask, Enough, Nothing}
use Rattle.ug_rules.specs.declared.heard.Heard.{Heard}
use Rattle.ug_rules.specs.declared.told.Told.{Told}
use Rattle.ug_rules.specs.Ranks.{of_ranks, ranks_that}
use Rattle.ug_rules.specs.State.{BookState, cutoff_of_best}
use Rattle.ug_rules.specs.Deaths.{killed, killed_at, lost_by, stop_at, stops_below, with_dead}
use Rattle.ug_rules.specs.Deciding.{IsDecided, IsRaceEnded, IsReadied, Stands, announced, announced_as, announcement, announcements, assigned, assigned_by, assigned_times, collect_in, collect_out, collected, dropped, given, given_to, handouts, is_race_due, loser_stop, loser_stops, racer_params, usual_params, race_begun_with, race_won, raced_by, raced_by_all, same_cutoff, stopped_collecting, winner_order, work_order}
use Rattle.ug_rules.specs.Hearing.{after_hearing, counted, done_at, handed_at, kept}
use Rattle.ug_rules.proofs.AnswerLemmas.{under_answer}

-- ---- numbers

-- the number of the last ticket behind an order
abbrev pub number_after : ℕ → Order → ℕ
number_after from (WorkOrder ticket params race cutoff changes) = ticket.number
number_after from order = from

-- an order may come next: one of work under a greater number, or any other but a first one or the
-- end
abbrev pub MayCome : ℕ → Order → Type 0
MayCome from (WorkOrder ticket params race cutoff changes) = from < ticket.number
MayCome from (Setup gap bytes) = ⊥
MayCome from End = ⊥
MayCome from order = Unit {0}

-- the numbers rise from the one to the other
abbrev pub IsNumbered : ℕ → List Told → ℕ → Type 0
IsNumbered from [] to = from ≤ to
IsNumbered from (told ∷ more) to = MayCome from told.order × IsNumbered (number_after from told.order) more to

pub after_up : (a : ℕ) (order : Order) → MayCome a order → a ≤ number_after a order
after_up a (Setup gap bytes) h = absurd h
after_up a (WorkOrder ticket params race cutoff changes) h = omega (arith, h)
after_up a (Incumbent cutoff) h = omega arith
after_up a (CollectIn ticket count) h = omega arith
after_up a (CollectOut ticket) h = omega arith
after_up a (Winner ticket) h = omega arith
after_up a (Stop ticket) h = omega arith
after_up a End h = omega arith

may_come_less : (a b : ℕ) (order : Order) → a ≤ b → MayCome b order → MayCome a order
may_come_less a b (Setup gap bytes) less h = h
may_come_less a b (WorkOrder ticket params race cutoff changes) less h = omega (arith, less, h)
may_come_less a b (Incumbent cutoff) less h = h
may_come_less a b (CollectIn ticket count) less h = h
may_come_less a b (CollectOut ticket) less h = h
may_come_less a b (Winner ticket) less h = h
may_come_less a b (Stop ticket) less h = h
may_come_less a b End less h = h

pub after_less : (a b : ℕ) (order : Order) → a ≤ b → number_after a order ≤ number_after b order
after_less a b (Setup gap bytes) less = less
after_less a b (WorkOrder ticket params race cutoff changes) less = omega arith
after_less a b (Incumbent cutoff) less = less
after_less a b (CollectIn ticket count) less = less
after_less a b (CollectOut ticket) less = less
after_less a b (Winner ticket) less = less
after_less a b (Stop ticket) less = less
after_less a b End less = less

numbered_less : (a b : ℕ) (ts : List Told) (c : ℕ) → a ≤ b → IsNumbered b ts c → IsNumbered a ts c
numbered_less a b [] c less h = omega (arith, less, h)
numbered_less a b (t ∷ ts) c less h = (
  may_come_less a b t.order less h.0,
  numbered_less (number_after a t.order) (number_after b t.order) ts c (after_less a b t.order less) h.1,
)

pub numbered_on : (a b c : ℕ) (ts us : List Told) → IsNumbered a ts b → IsNumbered b us c
    → IsNumbered a (ts ++ us) c
numbered_on a b c [] us one two = numbered_less a b us c one two
numbered_on a b c (t ∷ ts) us one two =
    (one.0, numbered_on (number_after a t.order) b c ts us one.1 two)

-- ---- orders other than Work

abbrev IsOther : Order → Type 0
IsOther (Setup gap bytes) = ⊥
IsOther (WorkOrder ticket params race cutoff changes) = ⊥
IsOther End = ⊥
IsOther order = Unit {0}

abbrev AreOther : List Told → Type 0
AreOther [] = Unit {0}
AreOther (told ∷ more) = IsOther told.order × AreOther more

other_next : (a : ℕ) (order : Order) → IsOther order → MayCome a order × (number_after a order ≡ a)
other_next a (Setup gap bytes) h = absurd h
other_next a (WorkOrder ticket params race cutoff changes) h = absurd h
other_next a (Incumbent cutoff) h = (tt, refl)
other_next a (CollectIn ticket count) h = (tt, refl)
other_next a (CollectOut ticket) h = (tt, refl)
other_next a (Winner ticket) h = (tt, refl)
other_next a (Stop ticket) h = (tt, refl)
other_next a End h = absurd h

others_numbered : (a : ℕ) (ts : List Told) → AreOther ts → IsNumbered a ts a
others_numbered a [] h = omega arith
others_numbered a (t ∷ ts) h =
    let next = other_next a t.order h.0 in
    (next.0, subst (λ (n : ℕ). IsNumbered n ts a) (sym next.1) (others_numbered a ts h.1))

others_on : (ts us : List Told) → AreOther ts → AreOther us → AreOther (ts ++ us)
others_on [] us one two = two
others_on (t ∷ ts) us one two = (one.0, others_on ts us one.1 two)

others_if : (b : Bool) (ts us : List Told) → AreOther ts → AreOther us
    → AreOther (if b then ts else us)
others_if true ts us one two = one
others_if false ts us one two = two

of_ranks_other : (f : ℕ → State → List Told) → ((r : ℕ) (s : State) → AreOther (f r s)) → (r : ℕ)
    (states : List State) → AreOther (of_ranks f r states)
of_ranks_other f each r [] = tt
of_ranks_other f each r (s ∷ states) =
    others_on (f r s) (of_ranks f (r + 1) states) (each r s) (of_ranks_other f each (r + 1) states)

stop_other : (line : List Name) (r : ℕ) (s : State) → AreOther (stop_at line r s)
stop_other line r Absent = tt
stop_other line r Idle = tt
stop_other line r (Racing racer) = tt
stop_other line r (Active work) =
    others_if (is_ancestor line work.node.line) (record { rank = r; order = Stop work.ticket } ∷ []) [] (tt, tt) tt
stop_other line r (Dead how) = tt

announcement_other : (cutoff : ℤ) (r : ℕ) (s : State) → AreOther (announcement cutoff r s)
announcement_other cutoff r s =
    others_if (is_joined s) (record { rank = r; order = Incumbent cutoff } ∷ []) [] (tt, tt) tt

loser_other : (winner r : ℕ) (s : State) → AreOther (loser_stop winner r s)
loser_other winner r Absent = tt
loser_other winner r Idle = tt
loser_other winner r (Racing racer) =
    others_if _ [] (record { rank = r; order = Stop racer.ticket } ∷ []) tt (tt, tt)
loser_other winner r (Active work) = tt
loser_other winner r (Dead how) = tt

winner_other : (r : ℕ) (s : State) → AreOther (winner_order r s)
winner_other r Absent = tt
winner_other r Idle = tt
winner_other r (Racing racer) = (tt, tt)
winner_other r (Active work) = tt
winner_other r (Dead how) = tt

asked_other : (r count : ℕ) (s : State) → AreOther (collect_in r count s)
asked_other r count Absent = tt
asked_other r count Idle = tt
asked_other r count (Racing racer) = tt
asked_other r count (Active work) = (tt, tt)
asked_other r count (Dead how) = tt

enough_other : (r : ℕ) (s : State) → AreOther (collect_out r s)
enough_other r Absent = tt
enough_other r Idle = tt
enough_other r (Racing racer) = tt
enough_other r (Active work) = (tt, tt)
enough_other r (Dead how) = tt

-- ---- what a change of a book does to its orders

-- these left the queue, and others joined it, whose numbers resume from the last ticket
pub record Grows (left : List Told) (old new : BookState) : Type 0 where
  pub more : List Told
  pub orders : left ++ new.orders ≡ old.orders ++ more
  pub numbered : IsNumbered old.last more new.last
  pub problem : new.problem ≡ old.problem
  pub settings : new.settings ≡ old.settings

pub grows_both : (first second : List Told) (a b c : BookState) → Grows first a b → Grows second b c
    → Grows (first ++ second) a c
grows_both first second a b c one two = record {
  more = one.more ++ two.more;
  orders = append_assoc first second c.orders ∙ ap (λ (os : List Told). first ++ os) two.orders
      ∙ sym (append_assoc first b.orders two.more) ∙ ap (λ (os : List Told). os ++ two.more) one.orders
      ∙ append_assoc a.orders one.more two.more;
  numbered = numbered_on a.last b.last c.last one.more two.more one.numbered two.numbered;
  problem = two.problem ∙ one.problem;
  settings = two.settings ∙ one.settings;
}

abbrev IsMore : BookState → BookState → Type 0
IsMore old new = Grows [] old new

both : (a b c : BookState) → IsMore a b → IsMore b c → IsMore a c
both a b c one two = grows_both [] [] a b c one two

pub grows_itself : (b : BookState) → Grows [] b b
grows_itself b = record {
  more = [];
  orders = sym (append-nil b.orders);
  numbered = omega arith;
  problem = refl;
  settings = refl;
}

-- nothing that matters changed
record IsAlike (old new : BookState) : Type 0 where
  orders : new.orders ≡ old.orders
  last : new.last ≡ old.last
  problem : new.problem ≡ old.problem
  settings : new.settings ≡ old.settings

alike : (old new : BookState) → IsAlike old new → IsMore old new
alike old new h = record {
  more = [];
  orders = h.orders ∙ sym (append-nil old.orders);
  numbered = omega (arith, h.last);
  problem = h.problem;
  settings = h.settings;
}

-- orders other than Work joined the queue
with_others : (old new : BookState) (more : List Told) → new.orders ≡ old.orders ++ more → AreOther more
    → new.last ≡ old.last → new.problem ≡ old.problem → new.settings ≡ old.settings → IsMore old new
with_others old new more orders others last problem settings = record {
  more = more;
  orders = orders;
  numbered = subst (λ (n : ℕ). IsNumbered old.last more n) (sym last) (others_numbered old.last more others);
  problem = problem;
  settings = settings;
}

-- an order left it
pub grows_left : (old new : BookState) (told : Told) → old.orders ≡ told ∷ new.orders
    → new ≡ record old { orders = new.orders } → Grows (told ∷ []) old new
grows_left old new told first rest = record {
  more = [];
  orders = sym first ∙ sym (append-nil old.orders);
  numbered = omega (arith, ap (λ (b : BookState). b.last) rest);
  problem = ap (λ (b : BookState). b.problem) rest;
  settings = ap (λ (b : BookState). b.settings) rest;
}

-- ---- a death

lost_alike : (rs : List ℕ) (raced : Option Entry) (b : BookState) → IsAlike b (lost_by rs raced b)
lost_alike (r ∷ rs) raced b = record { orders = refl; last = refl; problem = refl; settings = refl }
lost_alike [] None b = record { orders = refl; last = refl; problem = refl; settings = refl }
lost_alike [] (Some entry) b = record { orders = refl; last = refl; problem = refl; settings = refl }

killed_at_grows : (s : State) (r : ℕ) (b : BookState) → IsMore b (killed_at s r b)
killed_at_grows Absent r b =
    alike b _ (record { orders = refl; last = refl; problem = refl; settings = refl })
killed_at_grows Idle r b =
    alike b _ (record { orders = refl; last = refl; problem = refl; settings = refl })
killed_at_grows (Racing racer) r b =
    let d = with_dead r b in
    let t = lost_alike (ranks_that is_racing d.ranks) d.raced d in
    alike b _ (record { orders = t.orders; last = t.last; problem = t.problem; settings = t.settings })
killed_at_grows (Active work) r b =
    with_others b _ (stops_below work.node.line (with_dead r b).ranks) refl
    (of_ranks_other (stop_at work.node.line) (stop_other work.node.line) 0 (with_dead r b).ranks) refl refl refl
killed_at_grows (Dead how) r b = grows_itself b

pub killed_grows : (r : ℕ) (b : BookState) → Grows [] b (killed r b)
killed_grows r b = killed_at_grows (state_at b.ranks r) r b

-- ---- receiving reports

handed_grows : (s : State) (r : ℕ) (changes : List Change) (b : BookState) → IsMore b (handed_at s r changes b)
handed_grows Absent r changes b = grows_itself b
handed_grows Idle r changes b = grows_itself b
handed_grows (Racing racer) r changes b = grows_itself b
handed_grows (Active work) r changes b =
    alike b _ (record { orders = refl; last = refl; problem = refl; settings = refl })
handed_grows (Dead how) r changes b = grows_itself b

done_grows : (s : State) (r : ℕ) (b : BookState) → IsMore b (done_at s r b)
done_grows Absent r b = grows_itself b
done_grows Idle r b = grows_itself b
done_grows (Racing racer) r b =
    alike b _ (record { orders = refl; last = refl; problem = refl; settings = refl })
done_grows (Active work) r b =
    alike b _ (record { orders = refl; last = refl; problem = refl; settings = refl })
done_grows (Dead how) r b = grows_itself b

kept_grows : (r : ℕ) (report : Report) (b : BookState) → IsMore b (kept r report b)
kept_grows r Ready b = alike b _ (record { orders = refl; last = refl; problem = refl; settings = refl })
kept_grows r (Solution ticket x) b =
    alike b _ (record { orders = refl; last = refl; problem = refl; settings = refl })
kept_grows r (Hand ticket number changes) b = handed_grows (state_at b.ranks r) r changes b
kept_grows r (Reported ticket count floor) b =
    alike b _ (record { orders = refl; last = refl; problem = refl; settings = refl })
kept_grows r (Done ticket told count ending) b = done_grows (state_at b.ranks r) r b
kept_grows r Ended b = grows_itself b

counted_grows : (b k : BookState) → IsMore b k → IsMore b (counted k)
counted_grows b k h = both b k (counted k) h
    (alike k (counted k) (record { orders = refl; last = refl; problem = refl; settings = refl }))

pub heard_grows : (answer : Heard) (r : ℕ) (report : Report) (b : BookState)
    → Grows [] b (after_hearing answer r report b)
heard_grows answer r report b =
    under_answer (IsMore b) (counted_grows b) b r report (grows_itself b) (killed_grows r b) answer
    (λ e. kept_grows r report b)

-- ---- a decision

announced_grows : (cutoff : Option ℤ) (b : BookState) → IsMore b (announced_as cutoff b)
announced_grows None b = grows_itself b
announced_grows (Some cutoff) b = by (same_cutoff b.announced cutoff)
  where
    by : (same : Bool) → IsMore b (if same
        then b
        else record b { orders = b.orders ++ announcements cutoff b.ranks; announced = Some cutoff })
    by true = grows_itself b
    by false = with_others b _ (announcements cutoff b.ranks) refl
        (of_ranks_other (announcement cutoff) (announcement_other cutoff) 0 b.ranks) refl refl refl

won_grows : (rank : ℕ) (b : BookState) → IsMore b (race_won rank b)
won_grows rank b = with_others b (race_won rank b) (winner_order rank (state_at b.ranks rank) ++ loser_stops rank b.ranks)
    (append_assoc b.orders (winner_order rank (state_at b.ranks rank)) (loser_stops rank b.ranks))
    (others_on (winner_order rank (state_at b.ranks rank)) (loser_stops rank b.ranks)
    (winner_other rank (state_at b.ranks rank))
    (of_ranks_other (loser_stop rank) (loser_other rank) 0 b.ranks)) refl refl refl

ended_grows : (old new : BookState) → IsRaceEnded old new → IsMore old new
ended_grows old new (inl (rank, t)) = subst (IsMore old) (sym t.done) (won_grows rank old)
ended_grows old new (inr t) = subst (IsMore old) (sym t.same) (grows_itself old)

readied_grows : (old ready : BookState) → IsReadied old ready → IsMore old ready
readied_grows old ready t =
    both old (dropped old) ready
    (alike old (dropped old) (record { orders = refl; last = refl; problem = refl; settings = refl }))
    (both (dropped old) (announced (dropped old)) ready
    (announced_grows (cutoff_of_best (dropped old)) (dropped old))
    (ended_grows (announced (dropped old)) ready t))

-- work is ordered under the next number
given_grows : (r : ℕ) (entry : Entry) (rest : List Entry) (b : BookState) → IsMore b (given_to r entry rest b)
given_grows r entry rest b = record {
  more = work_order b r (b.last + 1) (usual_params b) false entry ∷ [];
  orders = refl;
  numbered = (omega arith, omega arith);
  problem = refl;
  settings = refl;
}

assigned_grows_by : (rs : List ℕ) (pool : List Entry) (b : BookState) → IsMore b (assigned_by rs pool b)
assigned_grows_by [] pool b = grows_itself b
assigned_grows_by (r ∷ rs) [] b = grows_itself b
assigned_grows_by (r ∷ rs) (entry ∷ rest) b = given_grows r entry rest b

assigned_grows : (n : ℕ) (b : BookState) → IsMore b (assigned_times n b)
assigned_grows zero b = grows_itself b
assigned_grows (suc n) b =
    both b (assigned b) (assigned_times n (assigned b)) (assigned_grows_by (ranks_that is_idle b.ranks) b.pool b)
    (assigned_grows n (assigned b))

raced_grows : (r : ℕ) (entry : Entry) (b : BookState) → IsMore b (raced_by r entry b)
raced_grows r entry b = record {
  more = work_order b r (b.last + 1) (racer_params r) true entry ∷ [];
  orders = refl;
  numbered = (omega arith, omega arith);
  problem = refl;
  settings = refl;
}

raced_all_grows : (rs : List ℕ) (entry : Entry) (b : BookState) → IsMore b (raced_by_all rs entry b)
raced_all_grows [] entry b = grows_itself b
raced_all_grows (r ∷ rs) entry b =
    both b (raced_by r entry b) (raced_by_all rs entry (raced_by r entry b)) (raced_grows r entry b)
    (raced_all_grows rs entry (raced_by r entry b))

begun_grows : (pool : List Entry) (b : BookState) → IsMore b (race_begun_with pool b)
begun_grows [] b = grows_itself b
begun_grows (entry ∷ rest) b =
    let moved : BookState = record b { pool = rest; raced = Some entry } in
    both b moved (raced_by_all (ranks_that is_idle b.ranks) entry moved)
    (alike b moved (record { orders = refl; last = refl; problem = refl; settings = refl }))
    (raced_all_grows (ranks_that is_idle b.ranks) entry moved)

handed_out_grows : (n : ℕ) (b : BookState) → IsMore b (given n b)
handed_out_grows zero b = grows_itself b
handed_out_grows (suc n) b = elim (cases_Bool (is_race_due b)) [
  | inl due ↦ rw due (begun_grows b.pool b)
  | inr none ↦ rw none (assigned_grows (suc n) b)
]

stopped_grows : (rs : List ℕ) (b : BookState) → IsMore b (stopped_collecting rs b)
stopped_grows [] b = grows_itself b
stopped_grows (r ∷ rs) b =
    both b _ _ (with_others b _ (collect_out r (state_at b.ranks r)) refl
    (enough_other r (state_at b.ranks r)) refl refl refl) (stopped_grows rs _)

collected_grows : (demand : Wanted) (b : BookState) → IsMore b (collected demand b)
collected_grows (Ask r count) b = with_others b _ (collect_in r count (state_at b.ranks r)) refl
    (asked_other r count (state_at b.ranks r)) refl refl refl
collected_grows (Enough ranks) b = stopped_grows ranks b
collected_grows Nothing b = grows_itself b

pub decided_grows : (old new : BookState) → IsDecided old new → Grows [] old new
decided_grows old new t =
    let out = given (handouts t.ready) t.ready in
    both old t.ready new (readied_grows old t.ready t.readied)
    (both t.ready out new (handed_out_grows (handouts t.ready) t.ready)
    (subst (IsMore out) (sym t.collected_.done) (collected_grows t.collected_.demand out)))

pub stands_grows : (steps : ℕ) (old new : BookState) → Stands steps old new → Grows [] old new
stands_grows zero old new t = subst (IsMore old) (sym t) (grows_itself old)
stands_grows (suc zero) old new t = subst (IsMore old) (sym t)
    (alike old (dropped old) (record { orders = refl; last = refl; problem = refl; settings = refl }))
stands_grows (suc (suc zero)) old new t = subst (IsMore old) (sym t)
    (both old (dropped old) (announced (dropped old))
    (alike old (dropped old) (record { orders = refl; last = refl; problem = refl; settings = refl }))
    (announced_grows (cutoff_of_best (dropped old)) (dropped old)))
stands_grows (suc (suc (suc steps))) old new t = subst (IsMore old) (sym t.given_)
    (both old t.ready (given steps t.ready) (readied_grows old t.ready t.readied)
    (handed_out_grows steps t.ready))
