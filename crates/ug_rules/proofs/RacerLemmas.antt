-- Whether some rank races.
use Rattle.std.proofs.Common.{◌≡◌, ◌≢◌, inl, inr, ℕ, zero, suc, ◌+◌, ◌<◌, true, false, List, [], ◌∷◌, length, set, refl, ap, sym, ◌∙◌, subst}
use Rattle.std.specs.Prelude.{Bool}
use Rattle.std.proofs.lemmas.Bool.{cases_eq, cases_Bool, false≢true}
use Rattle.ug_ranks.specs.declared.state.Off.TheVariants.{Died}
use Rattle.ug_ranks.specs.declared.state.State.{State}
use Rattle.ug_ranks.specs.declared.state.State.TheVariants.{Absent, Idle, Racing, Active, Dead}
use Rattle.ug_ranks.specs.States.{state_at}
use Rattle.ug_rules.specs.Ranks.{of_ranks, rank_if, ranks_that}
use Rattle.ug_ranks.specs.Looks.{is_racing}
use Rattle.ug_rules.proofs.WorkLemmas.{idled, state_failed, state_here, state_passed, state_there}

-- some rank races
abbrev pub SomeRaces : List State → Type 0
SomeRaces ss = (q : ℕ) × (is_racing (state_at ss q) ≡ true)

later : (s : State) (ss : List State) → SomeRaces ss → SomeRaces (s ∷ ss)
later s ss (q, e) = (suc q, e)

races_from : (k : ℕ) (ss : List State) → of_ranks (rank_if is_racing) k ss ≢ [] → SomeRaces ss
races_from k [] h = absurd (h refl)
races_from k (Racing racer ∷ ss) h = (0, refl)
races_from k (Absent ∷ ss) h = later Absent ss (races_from (k + 1) ss h)
races_from k (Idle ∷ ss) h = later Idle ss (races_from (k + 1) ss h)
races_from k (Active work ∷ ss) h = later (Active work) ss (races_from (k + 1) ss h)
races_from k (Dead how ∷ ss) h = later (Dead how) ss (races_from (k + 1) ss h)

races_to : (k : ℕ) (ss : List State) → SomeRaces ss → of_ranks (rank_if is_racing) k ss ≢ []
races_to k [] (q, e) = absurd (false≢true e)
races_to k (Racing racer ∷ ss) t = λ e. cc
races_to k (Absent ∷ ss) (zero, e) = absurd (false≢true e)
races_to k (Absent ∷ ss) (suc q, e) = races_to (k + 1) ss (q, e)
races_to k (Idle ∷ ss) (zero, e) = absurd (false≢true e)
races_to k (Idle ∷ ss) (suc q, e) = races_to (k + 1) ss (q, e)
races_to k (Active work ∷ ss) (zero, e) = absurd (false≢true e)
races_to k (Active work ∷ ss) (suc q, e) = races_to (k + 1) ss (q, e)
races_to k (Dead how ∷ ss) (zero, e) = absurd (false≢true e)
races_to k (Dead how ∷ ss) (suc q, e) = races_to (k + 1) ss (q, e)

pub some_races : (ss : List State) → ranks_that is_racing ss ≢ [] → SomeRaces ss
some_races ss h = races_from 0 ss h

pub are_racing : (ss : List State) → SomeRaces ss → ranks_that is_racing ss ≢ []
are_racing ss t = races_to 0 ss t

-- if a state was written that races as the old one did, one that races raced before, and one
-- that raced does still
pub set_same_races : (ss : List State) (r : ℕ) (s : State) → r < length ss
    → is_racing s ≡ is_racing (state_at ss r) → SomeRaces (set ss r s) → SomeRaces ss
set_same_races ss r s l same (q, e) = elim (cases_eq q r) [
  | inl here ↦
      let at = subst (λ k. is_racing (state_at (set ss r s) k) ≡ true) here e in
      (r, sym same ∙ (sym (ap is_racing (state_here ss r s l)) ∙ at))
  | inr ne ↦ (q, sym (ap is_racing (state_there ss r s q ne)) ∙ e)
]

pub set_still_races : (ss : List State) (r : ℕ) (s : State) → r < length ss
    → is_racing s ≡ is_racing (state_at ss r) → SomeRaces ss → SomeRaces (set ss r s)
set_still_races ss r s l same (q, e) = elim (cases_eq q r) [
  | inl here ↦
      let at = subst (λ k. is_racing (state_at ss k) ≡ true) here e in
      (r, ap is_racing (state_here ss r s l) ∙ (same ∙ at))
  | inr ne ↦ (q, ap is_racing (state_there ss r s q ne) ∙ e)
]

-- one that races after a state that does not was written raced before
pub set_fewer_races : (ss : List State) (r : ℕ) (s : State) → r < length ss
    → is_racing s ≡ false → SomeRaces (set ss r s) → SomeRaces ss
set_fewer_races ss r s l none (q, e) = elim (cases_eq q r) [
  | inl here ↦
      let at = subst (λ k. is_racing (state_at (set ss r s) k) ≡ true) here e in
      absurd (false≢true (sym none ∙ (sym (ap is_racing (state_here ss r s l)) ∙ at)))
  | inr ne ↦ (q, sym (ap is_racing (state_there ss r s q ne)) ∙ e)
]

-- so did one that races after some ranks became idle, and it is not among them
pub idled_fewer_races : (test : State → Bool) → test (Dead Died) ≡ false → (ss : List State)
    → SomeRaces (idled test ss) → (t : SomeRaces ss) × (test (state_at ss t.0) ≡ false)
idled_fewer_races test h ss (q, e) = elim (cases_Bool (test (state_at ss q))) [
  | inl is ↦ absurd (false≢true (ap is_racing (sym (state_passed test h ss q is)) ∙ e))
  | inr fails ↦ ((q, ap is_racing (sym (state_failed test h ss q fails)) ∙ e), fails)
]
