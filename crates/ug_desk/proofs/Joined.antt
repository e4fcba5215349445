-- A rank that has joined has joined after a decision too.
use Rattle.std.proofs.Common.{◌≡◌, ℕ, zero, suc, true, false, List, [], ◌∷◌, ◌++◌, refl, ap, sym, subst, inl, inr, arith}
use Rattle.std.specs.Prelude.{ℤ, Option, Some, None, slice_set, if◌then◌else◌, ◌<◌, length}
use Rattle.ug_nodes.specs.declared.node.Node.{Node}
use Rattle.ug_pool.specs.declared.entry.Entry.{Entry}
use Rattle.ug_rules.specs.declared.demand.Wanted.{Wanted}
use Rattle.ug_rules.specs.declared.demand.Wanted.TheVariants.{Ask, Enough, Nothing}
use Rattle.ug_ranks.specs.declared.state.State.{State}
use Rattle.ug_ranks.specs.declared.state.State.TheVariants.{Absent, Idle, Racing, Active, Dead}
use Rattle.ug_ranks.specs.States.{state_at}
use Rattle.ug_ranks.specs.Changes.{asked_for, joined, won}
use Rattle.ug_rules.specs.State.{BookState, cutoff_of_best}
use Rattle.ug_rules.specs.Ranks.{racers_freed, ranks_that}
use Rattle.ug_ranks.specs.Looks.{is_idle, is_joined, is_racing}
use Rattle.ug_rules.specs.Deciding.{IsDecided, IsRaceEnded, announced, announced_as, announcements, assigned, assigned_by, assigned_times, collected, dropped, given, is_race_due, race_begun, race_begun_with, raced_by, raced_by_all, ranks_won, same_cutoff, stopped_collecting}
use Rattle.ug_desk.specs.Decided.{HasDecided}
use Rattle.ug_desk.specs.Takes.{with_joined}

-- rank r has joined
abbrev pub Joined : ℕ → List State → Type 0
Joined r ss = is_joined (state_at ss r) ≡ true

set_joined : (ss : List State) (q r : ℕ) (s : State) → Joined r ss
    → (q ≡ r → is_joined s ≡ true) → Joined r (slice_set ss q s)
set_joined [] q r s is own = is
set_joined (t ∷ ss) zero zero s is own = own refl
set_joined (t ∷ ss) zero (suc r) s is own = is
set_joined (t ∷ ss) (suc q) zero s is own = is
set_joined (t ∷ ss) (suc q) (suc r) s is own = set_joined ss q r s is (λ e. own (ap suc e))

-- the state of rank q is made of what it was
own_joined : (ss : List State) (q r : ℕ) (f : State → State)
    → ((s : State) → is_joined s ≡ true → is_joined (f s) ≡ true) → Joined r ss
    → Joined r (slice_set ss q (f (state_at ss q)))
own_joined ss q r f keeps is =
    set_joined ss q r (f (state_at ss q)) is
    (λ e. keeps (state_at ss q) (subst (λ k. Joined k ss) (sym e) is))

freed_one : (s : State) → is_joined s ≡ true → is_joined (if is_racing s then Idle else s) ≡ true
freed_one Absent is = is
freed_one Idle is = is
freed_one (Racing racer) is = refl
freed_one (Active work) is = is
freed_one (Dead how) is = is

freed_joined : (ss : List State) (r : ℕ) → Joined r ss → Joined r (racers_freed ss)
freed_joined [] r is = is
freed_joined (s ∷ ss) zero is = freed_one s is
freed_joined (s ∷ ss) (suc r) is = freed_joined ss r is

won_one : (node : Node) (floor : ℤ) (s : State) → is_joined s ≡ true
    → is_joined (won node floor s) ≡ true
won_one node floor Absent is = is
won_one node floor Idle is = is
won_one node floor (Racing racer) is = refl
won_one node floor (Active work) is = is
won_one node floor (Dead how) is = is

asked_one : (count : ℕ) (s : State) → is_joined s ≡ true → is_joined (asked_for count s) ≡ true
asked_one count Absent is = is
asked_one count Idle is = is
asked_one count (Racing racer) is = is
asked_one count (Active work) is = is
asked_one count (Dead how) is = is

-- ---- part by part

as_announced : (cutoff : Option ℤ) (b : BookState) → (announced_as cutoff b).ranks ≡ b.ranks
as_announced None b = refl
as_announced (Some cutoff) b =
    elim (same_cutoff b.announced cutoff) as (λ v. (if v
    then b
    else record b {
      orders = b.orders ++ announcements cutoff b.ranks;
      announced = Some cutoff;
    }).ranks ≡ b.ranks) [ true ↦ refl | false ↦ refl ]

won_joined : (rank : ℕ) (raced : Option Entry) (ss : List State) (r : ℕ) → Joined r ss
    → Joined r (ranks_won rank raced ss)
won_joined rank None ss r is = freed_joined ss r is
won_joined rank (Some entry) ss r is =
    set_joined (racers_freed ss) rank r (won entry.node entry.floor (state_at ss rank))
    (freed_joined ss r is)
    (λ e. won_one entry.node entry.floor (state_at ss rank)
    (subst (λ k. Joined k ss) (sym e) is))

ended_joined : (old new : BookState) (r : ℕ) → IsRaceEnded old new → Joined r old.ranks
    → Joined r new.ranks
ended_joined old new r (inl (rank, won)) is =
    subst (λ (b : BookState). Joined r b.ranks) (sym won.done)
    (won_joined rank old.raced old.ranks r is)
ended_joined old new r (inr none) is =
    subst (λ (b : BookState). Joined r b.ranks) (sym none.same) is

assigned_one : (rs : List ℕ) (entries : List Entry) (b : BookState) (r : ℕ) → Joined r b.ranks
    → Joined r (assigned_by rs entries b).ranks
assigned_one [] entries b r is = is
assigned_one (q ∷ rs) [] b r is = is
assigned_one (q ∷ rs) (entry ∷ rest) b r is = set_joined b.ranks q r _ is (λ _. refl)

assigned_joined : (n : ℕ) (b : BookState) (r : ℕ) → Joined r b.ranks
    → Joined r (assigned_times n b).ranks
assigned_joined zero b r is = is
assigned_joined (suc n) b r is =
    assigned_joined n (assigned b) r (assigned_one (ranks_that is_idle b.ranks) b.pool b r is)

raced_joined : (rs : List ℕ) (entry : Entry) (b : BookState) (r : ℕ) → Joined r b.ranks
    → Joined r (raced_by_all rs entry b).ranks
raced_joined [] entry b r is = is
raced_joined (q ∷ rs) entry b r is =
    raced_joined rs entry (raced_by q entry b) r (set_joined b.ranks q r _ is (λ _. refl))

begun_joined : (entries : List Entry) (b : BookState) (r : ℕ) → Joined r b.ranks
    → Joined r (race_begun_with entries b).ranks
begun_joined [] b r is = is
begun_joined (entry ∷ rest) b r is =
    raced_joined (ranks_that is_idle b.ranks) entry
    (record b { pool = rest; raced = Some entry }) r is

given_joined : (n : ℕ) (b : BookState) (r : ℕ) → Joined r b.ranks → Joined r (given n b).ranks
given_joined zero b r is = is
given_joined (suc n) b r is =
    elim (is_race_due b) as
    (λ v. Joined r (if v then race_begun b else assigned_times (suc n) b).ranks) [
      | true ↦ begun_joined b.pool b r is
      | false ↦ assigned_joined (suc n) b r is
    ]

stopped_joined : (rs : List ℕ) (b : BookState) (r : ℕ) → Joined r b.ranks
    → Joined r (stopped_collecting rs b).ranks
stopped_joined [] b r is = is
stopped_joined (q ∷ rs) b r is =
    stopped_joined rs _ r (own_joined b.ranks q r (asked_for 0) (asked_one 0) is)

collected_joined : (demand : Wanted) (b : BookState) (r : ℕ) → Joined r b.ranks
    → Joined r (collected demand b).ranks
collected_joined (Ask q count) b r is =
    own_joined b.ranks q r (asked_for count) (asked_one count) is
collected_joined (Enough ranks) b r is = stopped_joined ranks b r is
collected_joined Nothing b r is = is

decided_joined : (old new : BookState) (r : ℕ) → IsDecided old new → Joined r old.ranks
    → Joined r new.ranks
decided_joined old new r t is =
    let told : Joined r (announced (dropped old)).ranks =
    subst (λ ss. Joined r ss) (sym (as_announced (cutoff_of_best (dropped old)) (dropped old)))
    is in
    let ready = ended_joined (announced (dropped old)) t.ready r t.readied told in
    let out = given_joined _ t.ready r ready in
    subst (λ (b : BookState). Joined r b.ranks) (sym t.collected_.done)
    (collected_joined t.collected_.demand _ r out)

-- ---- the whole

joins : (s : State) → is_joined (joined s) ≡ true
joins Absent = refl
joins Idle = refl
joins (Racing racer) = refl
joins (Active work) = refl
joins (Dead how) = refl

set_at : (ss : List State) (r : ℕ) (s : State) → r < length ss → is_joined s ≡ true
    → Joined r (slice_set ss r s)
set_at [] r s there is = absurd (omega (arith, there))
set_at (t ∷ ss) zero s there is = is
set_at (t ∷ ss) (suc r) s there is = set_at ss r s (omega (arith, there)) is

-- so it is of the rank that takes
pub stays_joined : (old new : BookState) (r : ℕ) → r < length old.ranks
    → HasDecided (with_joined r old) new → is_joined (state_at new.ranks r) ≡ true
stays_joined old new r there t =
    subst (λ (b : BookState). Joined r b.ranks) (sym t.dropped)
    (decided_joined (with_joined r old) t.decided r t.made
    (set_at old.ranks r (joined (state_at old.ranks r)) there (joins (state_at old.ranks r))))
