-- What loops over the ranks have done so far, and at their end.
use Rattle.std.proofs.Common.{◌≡◌, ◌≢◌, inl, inr, ℕ, zero, suc, ◌+◌, ◌<◌, ◌≤◌, Bool, true, false, if◌then◌else◌, List, [], ◌∷◌, ◌++◌, length, set, take, refl, sym, ap, ◌∙◌, subst, arith}
use Rattle.std.specs.Prelude.{◌↔◌, IsTrue}
use Rattle.std.proofs.lemmas.Bool.{cases_eq, cases_lt, false≢true}
use Rattle.std.proofs.lemmas.List.{ext_get_or, get_or_past, length-append, length-map, length-set}
use Rattle.ug_ranks.specs.declared.state.Off.TheVariants.{Died}
use Rattle.ug_ranks.specs.declared.state.State.{State}
use Rattle.ug_ranks.specs.declared.state.State.TheVariants.{Idle, Dead}
use Rattle.ug_ranks.specs.States.{state_at}
use Rattle.ug_rules.specs.Ranks.{of_ranks, ranks_that}
use Rattle.ug_ranks.specs.Looks.{is_racing}
use Rattle.ug_rules.proofs.RacerLemmas.{SomeRaces, are_racing, some_races}
use Rattle.ug_rules.proofs.RankLists.{of_ranks_more}
use Rattle.ug_rules.proofs.WorkLemmas.{idled, state_here, state_idled, state_there}

-- the list of the first ranks' reports is no longer than that of all
pub of_ranks_within : {A : Type 0} (f : ℕ → State → List A) (r : ℕ) (ss : List State) (k : ℕ)
    → length (of_ranks f r (take k ss)) ≤ length (of_ranks f r ss)
of_ranks_within f r [] zero = omega arith
of_ranks_within f r [] (suc k) = omega arith
of_ranks_within f r (s ∷ ss) zero = omega arith
of_ranks_within f r (s ∷ ss) (suc k) =
    let rest = of_ranks_within f (r + 1) ss k in
    let part = length-append (f r s) (of_ranks f (r + 1) (take k ss)) in
    let all = length-append (f r s) (of_ranks f (r + 1) ss) in
    omega (arith, rest, part, all)

-- so there is room for one more
pub room_for_one : {A : Type 0} (f : ℕ → State → List A) (ss : List State) (k : ℕ) → k < length ss
    → (room left : ℕ) → length (of_ranks f 0 ss) ≤ room
    → left + length (of_ranks f 0 (take k ss)) ≡ room → length (f k (state_at ss k)) ≤ left
room_for_one f ss k there room left all is =
    let more = of_ranks_more f 0 ss k there in
    let long = ap (λ xs. length xs) more
    ∙ length-append (of_ranks f 0 (take k ss)) (f (0 + k) (state_at ss k)) in
    let same : 0 + k ≡ k = omega arith in
    let own = ap (λ (n : ℕ). length (f n (state_at ss k))) same in
    omega (arith, of_ranks_within f 0 ss (k + 1), long, own, all, is)

-- the reports with one rank more
pub more_told : {A : Type 0} (f : ℕ → State → List A) (ss : List State) (k : ℕ) → k < length ss
    → of_ranks f 0 (take (k + 1) ss) ≡ of_ranks f 0 (take k ss) ++ f k (state_at ss k)
more_told {A = A} f ss k there =
    let same : 0 + k ≡ k = omega arith in
    of_ranks_more f 0 ss k there
    ∙ ap (λ (n : ℕ). of_ranks f 0 (take k ss) ++ f n (state_at ss k)) same

-- the ranks before k are idle where they pass a test, and the others are as they were
pub record AreIdled (test : State → Bool) (old now : List State) (k : ℕ) : Type 0 where
  pub wide : length now ≡ length old
  pub done : (j : ℕ) → j < k → state_at now j
      ≡ (if test (state_at old j) then Idle else state_at old j)
  pub rest : (j : ℕ) → k ≤ j → state_at now j ≡ state_at old j

pub none_idled : (test : State → Bool) (ss : List State) → AreIdled test ss ss 0
none_idled test ss = record {
  wide = refl;
  done = λ j lt. absurd (omega (arith, lt));
  rest = λ j le. refl;
}

pub one_idled : (test : State → Bool) (old now : List State) (k : ℕ) → k < length old
    → AreIdled test old now k
    → AreIdled test old (set now k (if test (state_at now k) then Idle else state_at now k)) (k + 1)
one_idled test old now k there t = record {
  wide = length-set now k s ∙ t.wide;
  done = λ j lt. elim (cases_eq j k) [
    | inl e ↦ subst
        (λ i. state_at (set now k s) i ≡ (if test (state_at old i) then Idle else state_at old i))
        (sym e)
        (state_here now k s (omega (arith, there, t.wide))
        ∙ ap (λ (z : State). if test z then Idle else z) (t.rest k (omega arith)))
    | inr ne ↦ state_there now k s j ne ∙ t.done j (less j lt ne)
  ];
  rest = λ j le. state_there now k s j (λ e. omega (arith, le, e)) ∙ t.rest j (omega (arith, le));
}
  where
    s : State
    s = if test (state_at now k) then Idle else state_at now k

    less : (j : ℕ) → j < k + 1 → j ≢ k → j < k
    less j lt ne = elim (cases_lt j k) [ inl l ↦ l | inr ge ↦ absurd (ne (omega (arith, lt, ge))) ]

pub all_idled : (test : State → Bool) → test (Dead Died) ≡ false → (old now : List State) (k : ℕ)
    → length old ≤ k → AreIdled test old now k → now ≡ idled test old
all_idled test dead old now k end t = ext_get_or (Dead Died) now (idled test old)
    (t.wide ∙ sym (length-map old (λ (state : State). if test state then Idle else state)))
    (λ j lt. t.done j (omega (arith, lt, t.wide, end)) ∙ sym (state_idled test dead old j))

-- whether some rank races, by the states
pub some_is : (ss : List State) (k : ℕ) → is_racing (state_at ss k) ≡ true
    → IsTrue true ↔ (ranks_that is_racing ss ≢ [])
some_is ss k is = (λ t. are_racing ss (k, is), λ h. refl)

pub none_is : (ss : List State) (k : ℕ) → length ss ≤ k
    → ((j : ℕ) → j < k → is_racing (state_at ss j) ≡ false)
    → IsTrue false ↔ (ranks_that is_racing ss ≢ [])
none_is ss k end none = (λ t. absurd (false≢true t), λ h. absurd (by (some_races ss h)))
  where
    by : SomeRaces ss → ⊥
    by (q, is) = elim (cases_lt q k) [
      | inl l ↦ false≢true (sym (none q l) ∙ is)
      | inr past ↦ false≢true
          (ap is_racing (sym (get_or_past ss q (Dead Died) (omega (arith, end, past)))) ∙ is)
    ]
