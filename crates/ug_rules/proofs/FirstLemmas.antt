-- The ranks of which a test is true.
use Rattle.std.proofs.Common.{◌≡◌, inl, inr, ℕ, zero, suc, ◌+◌, ◌<◌, Bool, true, false, List, [], ◌∷◌, length, refl, sym, subst, arith}
use Rattle.std.specs.Prelude.{Contains}
use Rattle.std.proofs.lemmas.Bool.{cases_Bool, false≢true}
use Rattle.std.proofs.lemmas.List.Elements.{Contains-append_cases}
use Rattle.ug_ranks.specs.declared.state.State.{State}
use Rattle.ug_ranks.specs.declared.state.State.TheVariants.{Absent, Idle, Racing, Active, Dead}
use Rattle.ug_ranks.specs.States.{state_at}
use Rattle.ug_rules.specs.Ranks.{of_ranks, rank_if, ranks_that}
use Rattle.ug_ranks.specs.Looks.{is_idle}

-- rank r is number q of the states, counted from k, and passes
record IsPicked (test : State → Bool) (k : ℕ) (ss : List State) (r : ℕ) : Type 0 where
  place : ℕ
  there : place < length ss
  named : r ≡ k + place
  passes : test (state_at ss place) ≡ true

picked : (test : State → Bool) (k : ℕ) (ss : List State) (r : ℕ)
    → Contains (of_ranks (rank_if test) k ss) r → IsPicked test k ss r
picked test k [] r h = absurd (omega (arith, h.1))
picked test k (s ∷ ss) r h =
    elim (Contains-append_cases (rank_if test k s) (of_ranks (rank_if test) (k + 1) ss) r h) [
      | inl own ↦ elim (cases_Bool (test s)) [
        | inl pass ↦ record {
          place = 0;
          there = omega arith;
          named = omega (arith, only pass own);
          passes = pass;
        }
        | inr fails ↦ absurd (none fails own)
      ]
      | inr more ↦
          let t = picked test (k + 1) ss r more in
          record {
            place = suc t.place;
            there = omega (arith, t.there);
            named = omega (arith, t.named);
            passes = t.passes;
          }
    ]
  where
    only : test s ≡ true → Contains (rank_if test k s) r → k ≡ r
    only pass = rw pass (λ at. one at)
      where
        one : Contains (k ∷ []) r → k ≡ r
        one (zero, l, same) = same
        one (suc j, l, same) = absurd (omega (arith, l))

    none : test s ≡ false → Contains (rank_if test k s) r → ⊥
    none fails = rw fails (λ (at : Contains [] r). omega (arith, at.1))

-- a rank that is listed is there, and passes
pub passes : (test : State → Bool) (ss : List State) (r : ℕ) → Contains (ranks_that test ss) r
    → (r < length ss) × (test (state_at ss r) ≡ true)
passes test ss r h =
    let t = picked test 0 ss r h in
    let same : t.place ≡ r = omega (arith, t.named) in (
      omega (arith, t.there, same),
      subst (λ q. test (state_at ss q) ≡ true) same t.passes,
    )

pub idle_is : (s : State) → is_idle s ≡ true → s ≡ Idle
idle_is Idle h = refl
idle_is Absent h = absurd (false≢true h)
idle_is (Racing racer) h = absurd (false≢true h)
idle_is (Active work) h = absurd (false≢true h)
idle_is (Dead how) h = absurd (false≢true h)

-- if it is listed first, it is there and idle
pub first_idle : (ss : List State) (r : ℕ) (rs : List ℕ) → ranks_that is_idle ss ≡ r ∷ rs
    → (r < length ss) × (state_at ss r ≡ Idle)
first_idle ss r rs e =
    let t = passes is_idle ss r (subst (λ qs. Contains qs r) (sym e) (0, omega arith, refl)) in
    (t.0, idle_is (state_at ss r) t.1)
