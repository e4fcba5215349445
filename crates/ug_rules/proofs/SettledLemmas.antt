-- After a decision no node in the pool is beyond the cutoff, and no rank is idle beside a node
-- that it could have.
use Rattle.std.proofs.Common.{◌≡◌, inl, inr, ℕ, zero, suc, ℤ, ◌<ℤ◌, ◌+◌, ◌-◌, ◌^◌, ◌≤◌, min, Bool, true, false, int_lt, List, [], ◌∷◌, ◌++◌, length, filter, set, refl, ap, sym, ◌∙◌, subst, arith}
use Rattle.std.specs.Prelude.{All, Contains, ◌&&◌, nat_eq, nat_lt, if◌then◌else◌, Option, Some, None, slice_set}
use Rattle.std.proofs.lemmas.Int.{ints}
use Rattle.std.proofs.lemmas.Bool.{cases_Bool}
use Rattle.std.proofs.lemmas.List.Elements.{All-contains_itself, All-tail, All-weaker}
use Rattle.ug_rules.specs.declared.demand.Wanted.{Wanted}
use Rattle.ug_rules.specs.declared.demand.Wanted.TheVariants.{Ask, Enough, Nothing}
use Rattle.ug_pool.specs.declared.entry.Entry.{Entry}
use Rattle.ug_nodes.specs.declared.node.Node.{Node}
use Rattle.ug_ranks.specs.declared.state.Work.{Work}
use Rattle.ug_ranks.specs.declared.state.State.{State}
use Rattle.ug_ranks.specs.declared.state.State.TheVariants.{Absent, Idle, Racing, Active, Dead}
use Rattle.ug_ranks.specs.States.{state_at}
use Rattle.ug_ranks.specs.Changes.{asked_for, work_of}
use Rattle.ug_rules.specs.declared.told.Told.{Told}
use Rattle.ug_rules.specs.State.{BookState, cutoff_of_best, held_nodes, nodes_in, raced_node, ticket_with}
use Rattle.ug_rules.specs.Ranks.{of_ranks, rank_if, ranks_that}
use Rattle.ug_ranks.specs.Looks.{is_absent, is_idle}
use Rattle.ug_rules.specs.Deciding.{IsDecided, IsRaceEnded, IsReadied, announced, announced_as, assigned, assigned_by, assigned_times, assignments, below_cutoff, collect_in, collect_out, collected, dropped, given, given_to, handouts, is_race_awaited, is_race_due, usual_params, race_begun, race_begun_with, raced_by_all, same_cutoff, stopped_collecting}
use Rattle.ug_rules.specs.DecidingLaws.{IsBelowCutoff, IsBusy, IsCutOff, IsSettled}
use Rattle.ug_rules.proofs.PoolLemmas.{picked_old}
use Rattle.ug_rules.proofs.GivenLemmas.{CanBeGiven}
use Rattle.ug_rules.proofs.AssignedLemmas.{fewer_from, next}
use Rattle.ug_rules.proofs.BegunLemmas.{alone_is, begin_is, empty}
use Rattle.ug_rules.proofs.WorkLemmas.{same_nodes}
use Rattle.ug_rules.proofs.BookLemmas.{asked_alike}

-- what a test picks passes
below_all : (cutoff : Option ℤ) (es : List Entry)
    → All (IsBelowCutoff cutoff) (below_cutoff cutoff es)
below_all None es = All-weaker (Contains es) (IsBelowCutoff None) (λ e h. tt) es
    (All-contains_itself es)
below_all (Some c) es =
    let left = filter (λ (entry : Entry). int_lt entry.floor c) es in
    All-weaker (Contains left) (IsBelowCutoff (Some c))
    (λ e h. below e (picked_old (λ entry. int_lt entry.floor c) es e h).1) left
    (All-contains_itself left)
  where
    below : (e : Entry) → int_lt e.floor c ≡ true → e.floor <ℤ c
    below e is = omega (arith, ints, is)

dropped_cut : (b : BookState) → IsCutOff (dropped b)
dropped_cut b = below_all (cutoff_of_best b) b.pool

announced_cut_as : (cutoff : Option ℤ) (b : BookState) → IsCutOff b
    → IsCutOff (announced_as cutoff b)
announced_cut_as None b h = h
announced_cut_as (Some c) b h = elim (cases_Bool (same_cutoff b.announced c)) [
  | inl same ↦ rw same h
  | inr new ↦ rw new h
]

ended_cut : (old new : BookState) → IsRaceEnded old new → IsCutOff old → IsCutOff new
ended_cut old new (inl (rank, t)) h = subst IsCutOff (sym t.done) h
ended_cut old new (inr t) h = subst IsCutOff (sym t.same) h

readied_cut : (old new : BookState) → IsReadied old new → IsCutOff new
readied_cut old new t = ended_cut (announced (dropped old)) new t
    (announced_cut_as (cutoff_of_best (dropped old)) (dropped old) (dropped_cut old))

assigned_cut_by : (rs : List ℕ) (es : List Entry) (b : BookState)
    → All (IsBelowCutoff (cutoff_of_best b)) es → IsCutOff b → IsCutOff (assigned_by rs es b)
assigned_cut_by [] es b all h = h
assigned_cut_by (r ∷ rs) [] b all h = h
assigned_cut_by (r ∷ rs) (e ∷ es) b all h = All-tail (IsBelowCutoff (cutoff_of_best b)) e es all

assigned_cut : (n : ℕ) (b : BookState) → IsCutOff b → IsCutOff (assigned_times n b)
assigned_cut zero b h = h
assigned_cut (suc n) b h =
    assigned_cut n (assigned b) (assigned_cut_by (ranks_that is_idle b.ranks) b.pool b h h)

raced_cut : (rs : List ℕ) (entry : Entry) (b : BookState) → IsCutOff b
    → IsCutOff (raced_by_all rs entry b)
raced_cut [] entry b h = h
raced_cut (r ∷ rs) entry b h = raced_cut rs entry _ h

begun_cut : (es : List Entry) (b : BookState) → All (IsBelowCutoff (cutoff_of_best b)) es
    → IsCutOff b
    → IsCutOff (race_begun_with es b)
begun_cut [] b all h = h
begun_cut (e ∷ es) b all h = raced_cut (ranks_that is_idle b.ranks) e
    (record b { pool = es; raced = Some e }) (All-tail (IsBelowCutoff (cutoff_of_best b)) e es all)

given_cut : (n : ℕ) (b : BookState) → IsCutOff b → IsCutOff (given n b)
given_cut zero b h = h
given_cut (suc n) b h = elim (cases_Bool (is_race_due b)) [
  | inl due ↦ rw due (begun_cut b.pool b h h)
  | inr none ↦ rw none (assigned_cut (suc n) b h)
]

stopped_cut : (rs : List ℕ) (b : BookState) → IsCutOff b → IsCutOff (stopped_collecting rs b)
stopped_cut [] b h = h
stopped_cut (r ∷ rs) b h = stopped_cut rs _ h

collected_cut : (demand : Wanted) (b : BookState) → IsCutOff b → IsCutOff (collected demand b)
collected_cut (Ask r count) b h = h
collected_cut (Enough ranks) b h = stopped_cut ranks b h
collected_cut Nothing b h = h

-- one fewer can be assigned after each, and so none in the end
one_fewer : (b : BookState) (r : ℕ) (e : Entry) (es : List Entry) → CanBeGiven b r e es → (n : ℕ)
    → suc n ≡ assignments b → n ≡ assignments (given_to r e es b)
one_fewer b r e es can n some =
    let w : Work = work_of (ticket_with b (b.last + 1)) e.node e.floor (usual_params b) in
    let ranks = fewer_from 0 b.ranks r w can.there can.idle in
    let pool : length b.pool ≡ length es + 1 =
    ap (λ (xs : List Entry). length xs) can.pool ∙ omega arith in
    smaller n (length (ranks_that is_idle (set b.ranks r (Active w))))
    (length (ranks_that is_idle b.ranks))
    (length es) (length b.pool) (2 ^ 64 - 1 - (b.last + 1)) (2 ^ 64 - 1 - b.last)
    ranks (sym pool) (omega (arith, can.number)) some
  where
    smaller : (n i i2 p p2 q q2 : ℕ) → i + 1 ≡ i2 → p + 1 ≡ p2 → q + 1 ≡ q2
        → suc n ≡ min i2 (min p2 q2) → n ≡ min i (min p q)
    smaller n i i2 p p2 q q2 a c d e = omega (arith, a, c, d, e)

none_left : (n : ℕ) (b : BookState) → n ≡ assignments b → assignments (assigned_times n b) ≡ 0
none_left zero b h = sym h
none_left (suc n) b h =
    let t = next b (omega (arith, h)) in
    let is = t.3 in
    let new = given_to t.0 t.1 t.2 b in
    subst (λ c. assignments (assigned_times n c) ≡ 0) (sym is.is)
    (none_left n new (one_fewer b t.0 t.1 t.2 is.can n h))

busy_done : (b : BookState) → assignments b ≡ 0 → IsBusy b
busy_done b h = by (ranks_that is_idle b.ranks) b.pool refl refl
  where
    by : (rs : List ℕ) (es : List Entry) → ranks_that is_idle b.ranks ≡ rs → b.pool ≡ es → IsBusy b
    by [] es idle pool = inl idle
    by (r ∷ rs) [] idle pool = inr (inl pool)
    by (r ∷ rs) (e ∷ es) idle pool = inr (inr (inr (spent (length (ranks_that is_idle b.ranks))
        (length b.pool) (2 ^ 64 - 1 - b.last) b.last
        (ap (λ (xs : List ℕ). length xs) idle) (ap (λ (xs : List Entry). length xs) pool) refl h)))
      where
        spent : (i p q last : ℕ) → i ≡ suc (length rs) → p ≡ suc (length es) → q ≡ 2 ^ 64 - 1 - last
            → min i (min p q) ≡ 0 → 2 ^ 64 - 1 ≤ last
        spent i p q last a c d e = omega (arith, a, c, d, e)

-- the fourth part
raced_pool : (rs : List ℕ) (entry : Entry) (b : BookState) → (raced_by_all rs entry b).pool ≡ b.pool
raced_pool [] entry b = refl
raced_pool (r ∷ rs) entry b = raced_pool rs entry _

busy_begun : (b : BookState) → is_race_due b ≡ true → IsBusy (race_begun b)
busy_begun b due = by b.pool refl
  where
    by : (es : List Entry) → b.pool ≡ es → IsBusy (race_begun_with es b)
    by [] e = inr (inl e)
    by (entry ∷ rest) e =
        let a = alone_is b entry rest e (begin_is b due).one in
        inr (inl (raced_pool (ranks_that is_idle b.ranks) entry
        (record b { pool = rest; raced = Some entry })
        ∙ empty rest (omega (arith, ap (λ (xs : List Entry). length xs) (sym e ∙ a.pool)))))

busy_assigned : (b : BookState) → is_race_due b ≡ false → is_race_awaited b ≡ false
    → IsBusy (given (assignments b) b)
busy_assigned b none goes = by (assignments b) refl
  where
    by : (n : ℕ) → n ≡ assignments b → IsBusy (given n b)
    by zero e = busy_done b (sym e)
    by (suc n) e = rw none (busy_done (assigned_times (suc n) b) (none_left (suc n) b e))

busy_given : (b : BookState) → IsBusy (given (handouts b) b)
busy_given b = elim (cases_Bool (is_race_due b)) [
  | inl due ↦ begins due
  | inr none ↦ elim (cases_Bool (is_race_awaited b)) [
    | inl waits ↦ nothing none waits
    | inr goes ↦ subst (λ n. IsBusy (given n b)) (sym (all none goes)) (busy_assigned b none goes)
  ]
]
  where
    one : is_race_due b ≡ true → handouts b ≡ 1
    one due = rw due refl

    begun : is_race_due b ≡ true → race_begun b ≡ given 1 b
    begun due = rw due refl

    begins : is_race_due b ≡ true → IsBusy (given (handouts b) b)
    begins due = subst (λ n. IsBusy (given n b)) (sym (one due))
        (subst IsBusy (begun due) (busy_begun b due))

    zero_then : is_race_due b ≡ false → is_race_awaited b ≡ true → handouts b ≡ 0
    zero_then none waits = rw none (rw waits refl)

    nothing : is_race_due b ≡ false → is_race_awaited b ≡ true → IsBusy (given (handouts b) b)
    nothing none waits = subst (λ n. IsBusy (given n b)) (sym (zero_then none waits))
        (inr (inr (inl waits)))

    all : is_race_due b ≡ false → is_race_awaited b ≡ false → handouts b ≡ assignments b
    all none goes = rw none (rw goes refl)

-- asking for nodes changes nothing of it
same_that : (test : State → Bool) → ((count : ℕ) (s : State) → test (asked_for count s) ≡ test s)
    → (k : ℕ) (ss : List State) (r count : ℕ)
    → of_ranks (rank_if test) k (set ss r (asked_for count (state_at ss r)))
    ≡ of_ranks (rank_if test) k ss
same_that test alike k [] r count = refl
same_that test alike k (s ∷ ss) zero count = ap
    (λ (is : Bool). (if is then k ∷ [] else []) ++ of_ranks (rank_if test) (k + 1) ss)
    (alike count s)
same_that test alike k (s ∷ ss) (suc r) count =
    ap (λ (qs : List ℕ). rank_if test k s ++ qs) (same_that test alike (k + 1) ss r count)

idle_alike : (count : ℕ) (s : State) → is_idle (asked_for count s) ≡ is_idle s
idle_alike count Absent = refl
idle_alike count Idle = refl
idle_alike count (Racing racer) = refl
idle_alike count (Active work) = refl
idle_alike count (Dead how) = refl

absent_alike : (count : ℕ) (s : State) → is_absent (asked_for count s) ≡ is_absent s
absent_alike count Absent = refl
absent_alike count Idle = refl
absent_alike count (Racing racer) = refl
absent_alike count (Active work) = refl
absent_alike count (Dead how) = refl

-- a race is awaited by what is held, and who is absent
awaited_of : BookState → List Node → List ℕ → Bool
awaited_of b held absent =
    (b.settings.racing && (nat_eq b.last 0 && nat_eq (length held) 1)) && nat_lt 0 (length absent)

busy_asked : (b : BookState) (r count : ℕ) (orders : List Told) → IsBusy b
    → IsBusy (record b {
      ranks = slice_set b.ranks r
          (asked_for count (state_at b.ranks r));
      orders = orders;
    })
unfolding awaited_of
busy_asked b r count orders busy =
    let s = asked_for count (state_at b.ranks r) in
    let new = record b { ranks = slice_set b.ranks r s; orders = orders } in
    let idle = same_that is_idle idle_alike 0 b.ranks r count in
    let absent = same_that is_absent absent_alike 0 b.ranks r count in
    let nodes = same_nodes b.ranks r s (asked_alike count (state_at b.ranks r)).nodes in
    let held : held_nodes new ≡ held_nodes b =
    ap (λ (ns : List Node). nodes_in b.pool ++ ns ++ raced_node b.raced) nodes in
    let awaited : is_race_awaited new ≡ is_race_awaited b =
    ap (λ (ns : List Node). awaited_of b ns (ranks_that is_absent new.ranks)) held
    ∙ ap (λ (qs : List ℕ). awaited_of b (held_nodes b) qs) absent in
    elim busy [
      | inl none ↦ inl (idle ∙ none)
      | inr rest ↦ elim rest [
        | inl pool ↦ inr (inl pool)
        | inr more ↦ elim more [
          | inl waits ↦ inr (inr (inl (awaited ∙ waits)))
          | inr spent ↦ inr (inr (inr spent))
        ]
      ]
    ]

busy_stopped : (rs : List ℕ) (b : BookState) → IsBusy b → IsBusy (stopped_collecting rs b)
busy_stopped [] b h = h
busy_stopped (r ∷ rs) b h =
    busy_stopped rs _ (busy_asked b r 0 (b.orders ++ collect_out r (state_at b.ranks r)) h)

busy_collected : (demand : Wanted) (b : BookState) → IsBusy b → IsBusy (collected demand b)
busy_collected (Ask r count) b h =
    busy_asked b r count (b.orders ++ collect_in r count (state_at b.ranks r)) h
busy_collected (Enough ranks) b h = busy_stopped ranks b h
busy_collected Nothing b h = h

pub decided_settled : (old new : BookState) → IsDecided old new → IsSettled new
decided_settled old new t =
    let out = given (handouts t.ready) t.ready in
    subst IsSettled (sym t.collected_.done) (record {
      cut_off = collected_cut t.collected_.demand out
          (given_cut (handouts t.ready) t.ready (readied_cut old t.ready t.readied));
      busy = busy_collected t.collected_.demand out (busy_given t.ready);
    })
