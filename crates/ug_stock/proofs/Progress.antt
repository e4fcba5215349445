-- How far the loop over the ranks has come: those before r were given what could be given.
use Rattle.std.proofs.Common.{◌≡◌, ◌≢◌, inl, inr, ℕ, zero, suc, ◌+◌, ◌-◌, ◌^◌, ◌<◌, ◌≤◌, min, Bool, false, if◌then◌else◌, List, [], ◌∷◌, ◌++◌, length, refl, ap, sym, ◌∙◌, subst, arith}
use Rattle.std.proofs.lemmas.Bool.{cases_Bool, cases_eq, cases_lt}
use Rattle.std.proofs.lemmas.List.{length-set}
use Rattle.ug_pool.specs.declared.entry.Entry.{Entry}
use Rattle.ug_ranks.specs.declared.state.State.{State}
use Rattle.ug_ranks.specs.declared.state.State.TheVariants.{Idle, Active}
use Rattle.ug_ranks.specs.States.{state_at}
use Rattle.ug_rules.specs.State.{BookState}
use Rattle.ug_rules.specs.Ranks.{of_ranks, rank_if, ranks_that}
use Rattle.ug_ranks.specs.Looks.{is_idle}
use Rattle.ug_rules.specs.Deciding.{assigned, assigned_by, assigned_times}
use Rattle.ug_rules.proofs.WorkLemmas.{state_here, state_there}
use Rattle.ug_rules.proofs.FirstLemmas.{idle_is}
use Rattle.ug_rules.proofs.AssignedLemmas.{fewer_from}
use Rattle.ug_stock.specs.declared.terms.Terms.{Terms}
use Rattle.ug_stock.specs.declared.frontier.Frontier.{Frontier}
use Rattle.ug_stock.specs.Frontiers.{AreTermsOf, with_frontier}
use Rattle.ug_stock.specs.Assigning.{CanBeAssigned, HasAssignedAll, HasAssignedPart, IsAssigned, KeepsPlaces}

-- none before r is idle
abbrev pub NoneIdleBefore : ℕ → List State → Type 0
NoneIdleBefore r ss = (j : ℕ) → j < r → is_idle (state_at ss j) ≡ false

-- then r is the first that is, if it is
first_from : (k : ℕ) (ss : List State) (r : ℕ) → r < length ss → state_at ss r ≡ Idle
    → NoneIdleBefore r ss
    → (rs : List ℕ) × (of_ranks (rank_if is_idle) k ss ≡ (k + r) ∷ rs)
first_from k [] r there idle none = absurd (omega (arith, there))
first_from k (s ∷ ss) zero there idle none =
    let rest = of_ranks (rank_if is_idle) (k + 1) ss in
    let same : k ≡ k + 0 = omega arith in (
      rest,
      ap (λ (t : State). rank_if is_idle k t ++ rest) idle ∙ ap (λ (n : ℕ). n ∷ rest) same,
    )
first_from k (s ∷ ss) (suc r) there idle none =
    let more = first_from (k + 1) ss r (omega (arith, there)) idle
    (λ j lt. none (suc j) (omega (arith, lt))) in
    let same : k + 1 + r ≡ k + suc r = omega arith in
    let own : is_idle s ≡ false = none 0 (omega arith) in (
      more.0,
      ap (λ (b : Bool). (if b then k ∷ [] else []) ++ of_ranks (rank_if is_idle) (k + 1) ss) own
          ∙ (more.1 ∙ ap (λ (n : ℕ). n ∷ more.0) same),
    )

-- and at the end none is
none_from : (k : ℕ) (ss : List State) (r : ℕ) → length ss ≤ r → NoneIdleBefore r ss
    → of_ranks (rank_if is_idle) k ss ≡ []
none_from k [] r end none = refl
none_from k (s ∷ ss) zero end none = absurd (omega (arith, end))
none_from k (s ∷ ss) (suc r) end none =
    let own : is_idle s ≡ false = none 0 (omega arith) in
    ap (λ (b : Bool). (if b then k ∷ [] else []) ++ of_ranks (rank_if is_idle) (k + 1) ss) own
    ∙ none_from (k + 1) ss r (omega (arith, end)) (λ j lt. none (suc j) (omega (arith, lt)))

-- how many assignments can be made
abbrev pub left_of : Frontier → ℕ
left_of s =
    min (length (ranks_that is_idle s.ranks)) (min (length s.pool.entries) (2 ^ 64 - 1 - s.last))

-- this many were made, and of the ranks before r none can be given more
pub record Progress (terms : Terms) (old now : Frontier) (steps r : ℕ) : Type 0 where
  pub done : (b : BookState) → AreTermsOf b terms → (m : ℕ)
      → assigned_times (steps + m) (with_frontier b old) ≡ assigned_times m (with_frontier b now)
  pub left : steps + left_of now ≡ left_of old
  pub passed : 0 < length now.pool.entries → now.last < 2 ^ 64 - 1 → NoneIdleBefore r now.ranks
  pub wide : length now.ranks ≡ length old.ranks
  pub few : steps ≤ r
  pub places : KeepsPlaces old now

pub no_progress : (terms : Terms) (old : Frontier) → Progress terms old old 0 0
no_progress terms old = record {
  done = λ b t m. ap (λ (n : ℕ). assigned_times n (with_frontier b old)) (none m);
  left = omega arith;
  passed = λ some number j lt. absurd (omega (arith, lt));
  wide = refl;
  few = omega arith;
  places = record { raced = refl; pool = omega arith; orders = λ h. h };
}
  where
    none : (m : ℕ) → 0 + m ≡ m
    none m = omega arith

-- a rank that cannot be given one is passed
pub one_passed : (terms : Terms) (old now : Frontier) (steps r : ℕ)
    → (CanBeAssigned r now.ranks now.pool.entries now.last → ⊥)
    → Progress terms old now steps r → Progress terms old now steps (r + 1)
one_passed terms old now steps r cannot p = record {
  done = p.done;
  left = p.left;
  passed = λ some number j lt. elim (cases_lt j r) [
    | inl less ↦ p.passed some number j less
    | inr ge ↦
        let same : j ≡ r = omega (arith, lt, ge) in
        elim (cases_Bool (is_idle (state_at now.ranks j))) [
          | inl is ↦ absurd (cannot (record {
            idle = subst (λ i. state_at now.ranks i ≡ Idle) same
                (idle_is (state_at now.ranks j) is);
            some = some;
            number = number;
          }))
          | inr fails ↦ fails
        ]
  ];
  wide = p.wide;
  few = omega (arith, p.few);
  places = p.places;
}

-- one that is given a node
pub one_given : (terms : Terms) (old now new : Frontier) (steps r : ℕ) → r < length now.ranks
    → CanBeAssigned r now.ranks now.pool.entries now.last → IsAssigned terms r now new
    → Progress terms old now steps r → Progress terms old new (steps + 1) (r + 1)
one_given terms old now new steps r there can t p = record {
  done = λ b is m. ap (λ (n : ℕ). assigned_times n (with_frontier b old)) (later m)
      ∙ (p.done b is (suc m) ∙ ap (λ (c : BookState). assigned_times m c) (next b is));
  left = omega (arith, p.left, one_less);
  passed = λ some number j lt. elim (cases_eq j r) [
    | inl same ↦ subst (λ i. is_idle (state_at new.ranks i) ≡ false) (sym same)
        (subst (λ ss. is_idle (state_at ss r) ≡ false) (sym t.given_.written)
        (ap is_idle (state_here now.ranks r (Active t.given_.work) there)))
    | inr ne ↦ subst (λ ss. is_idle (state_at ss j) ≡ false) (sym t.given_.written)
        (ap is_idle (state_there now.ranks r (Active t.given_.work) j ne)
        ∙ p.passed can.some can.number j (less j lt ne))
  ];
  wide = ap (λ (ss : List State). length ss) t.given_.written
      ∙ (length-set now.ranks r (Active t.given_.work) ∙ p.wide);
  few = omega (arith, p.few);
  places = record {
    raced = t.given_.raced ∙ p.places.raced;
    pool = omega (arith, p.places.pool, t.pool, t.working);
    orders = λ h. t.orders;
  };
}
  where
    later : (m : ℕ) → steps + 1 + m ≡ steps + suc m
    later m = omega arith

    less : (j : ℕ) → j < r + 1 → j ≢ r → j < r
    less j lt ne = elim (cases_lt j r) [ inl l ↦ l | inr ge ↦ absurd (ne (omega (arith, lt, ge))) ]

    next : (b : BookState) → AreTermsOf b terms → assigned (with_frontier b now) ≡ with_frontier b new
    next b is =
        let first = first_from 0 now.ranks r there can.idle (p.passed can.some can.number) in
        let ranks : ranks_that is_idle now.ranks ≡ r ∷ first.0 =
        first.1 ∙ ap (λ (n : ℕ). n ∷ first.0) (omega arith) in
        ap (λ (qs : List ℕ). assigned_by qs now.pool.entries (with_frontier b now)) ranks
        ∙ (ap (λ (es : List Entry). assigned_by (r ∷ first.0) es (with_frontier b now)) t.given_.first
        ∙ sym (t.given_.given_ b is))

    smaller : (i i2 p p2 q q2 : ℕ) → i + 1 ≡ i2 → p + 1 ≡ p2 → q + 1 ≡ q2
        → min i (min p q) + 1 ≡ min i2 (min p2 q2)
    smaller i i2 p p2 q q2 a c d = omega (arith, a, c, d)

    one_less : left_of new + 1 ≡ left_of now
    one_less = smaller (length (ranks_that is_idle new.ranks))
        (length (ranks_that is_idle now.ranks)) (length new.pool.entries)
        (length now.pool.entries) (2 ^ 64 - 1 - new.last) (2 ^ 64 - 1 - now.last)
        (subst (λ ss. length (ranks_that is_idle ss) + 1 ≡ length (ranks_that is_idle now.ranks))
        (sym t.given_.written) (fewer_from 0 now.ranks r t.given_.work there can.idle))
        (omega (arith, ap (λ (es : List Entry). length es) t.given_.first))
        (omega (arith, t.given_.last, can.number))

-- if some rank can still be given a node, not all were
pub part_assigned : (terms : Terms) (old now : Frontier) (steps r : ℕ) → r < length now.ranks
    → CanBeAssigned r now.ranks now.pool.entries now.last → Progress terms old now steps r
    → HasAssignedPart terms old now steps
part_assigned terms old now steps r there can p = λ b is. record {
  count = omega (arith, p.left, some);
  given_ = sym (p.done b is 0) ∙ ap (λ (n : ℕ). assigned_times n (with_frontier b old)) none;
}
  where
    none : steps + 0 ≡ steps
    none = omega arith

    idle_some : 0 < length (ranks_that is_idle now.ranks)
    idle_some =
        let first = first_from 0 now.ranks r there can.idle (p.passed can.some can.number) in
        omega (arith, ap (λ (rs : List ℕ). length rs) first.1)

    some : 0 < left_of now
    some = omega (arith, idle_some, can.some, can.number)

-- and where the ranks are passed, all were
pub all_assigned : (terms : Terms) (old now : Frontier) (steps r : ℕ) → length old.ranks ≤ r
    → Progress terms old now steps r → HasAssignedAll terms old now steps
all_assigned terms old now steps r end p = λ b is. record {
  count = omega (arith, p.left, none_left);
  given_ = sym (p.done b is 0) ∙ ap (λ (n : ℕ). assigned_times n (with_frontier b old)) none;
}
  where
    none : steps + 0 ≡ steps
    none = omega arith

    none_left : left_of now ≡ 0
    none_left = elim (cases_lt 0 (length now.pool.entries)) [
      | inl some ↦ elim (cases_lt now.last (2 ^ 64 - 1)) [
        | inl number ↦
            let idle = none_from 0 now.ranks r (omega (arith, end, p.wide))
            (p.passed some number) in
            omega (arith, ap (λ (rs : List ℕ). length rs) idle)
        | inr spent ↦ omega (arith, spent)
      ]
      | inr empty ↦ omega (arith, empty)
    ]

-- if the pool is empty none is given
pub none_assigned : (terms : Terms) (old : Frontier) → length old.pool.entries ≡ 0
    → HasAssignedAll terms old old 0
none_assigned terms old empty = λ b is. record {
  count = omega (arith, empty);
  given_ = refl;
}

pub nothing_moved : (old : Frontier) → KeepsPlaces old old
nothing_moved old = record { raced = refl; pool = omega arith; orders = λ h. h }
