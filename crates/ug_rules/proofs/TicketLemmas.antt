-- For what the tickets are current, after one state was written, some ranks became idle, and a race
-- ended.
use Rattle.std.proofs.Common.{◌≡◌, ◌≢◌, inl, inr, ℕ, zero, suc, ◌<◌, Bool, false, List, [], ◌∷◌, length, set, map, refl, ap, sym, ◌∙◌, subst}
use Rattle.std.specs.Prelude.{Option, Some, None}
use Rattle.std.proofs.lemmas.Bool.{cases_eq, cases_Bool}
use Rattle.std.proofs.lemmas.Option.{none-some}
use Rattle.ug_pool.specs.declared.entry.Entry.{Entry}
use Rattle.ug_ranks.specs.declared.state.Off.TheVariants.{Died}
use Rattle.ug_ranks.specs.declared.state.State.{State}
use Rattle.ug_ranks.specs.declared.state.State.TheVariants.{Absent, Idle, Racing, Active, Dead}
use Rattle.ug_ranks.specs.States.{state_at}
use Rattle.ug_ledger.specs.Ledgers.{Current}
use Rattle.ug_rules.specs.State.{current_of}
use Rattle.ug_rules.proofs.WorkLemmas.{idled, state_failed, state_here, state_passed, state_there}

-- a ticket that is current after a state without one was written is that of another rank, and was
-- current
pub free_current : (raced : Option Entry) (ss : List State) (r : ℕ) (s : State) (q : ℕ)
    (d : Current) → r < length ss → current_of raced s ≡ None
    → current_of raced (state_at (set ss r s) q) ≡ Some d
    → (q ≢ r) × (current_of raced (state_at ss q) ≡ Some d)
free_current raced ss r s q d l none h = elim (cases_eq q r) [
  | inl here ↦
      let at = subst (λ k. current_of raced (state_at (set ss r s) k) ≡ Some d) here h in
      absurd (none-some d (sym none ∙ (sym (ap (current_of raced) (state_here ss r s l)) ∙ at)))
  | inr ne ↦ (ne, sym (ap (current_of raced) (state_there ss r s q ne)) ∙ h)
]

-- and each of another rank stays
pub others_current : (raced : Option Entry) (ss : List State) (r : ℕ) (s : State) (q : ℕ)
    (d : Current) → q ≢ r → current_of raced (state_at ss q) ≡ Some d
    → current_of raced (state_at (set ss r s) q) ≡ Some d
others_current raced ss r s q d ne h = ap (current_of raced) (state_there ss r s q ne) ∙ h

-- a ticket that is current after some ranks became idle was so before
pub idled_current : (test : State → Bool) → test (Dead Died) ≡ false → (raced : Option Entry)
    (ss : List State) (q : ℕ) (d : Current) → current_of raced (state_at (idled test ss) q) ≡ Some d
    → current_of raced (state_at ss q) ≡ Some d
idled_current test e raced ss q d h = elim (cases_Bool (test (state_at ss q))) [
  | inl passes ↦
      absurd (none-some d (ap (current_of raced) (sym (state_passed test e ss q passes)) ∙ h))
  | inr fails ↦ ap (current_of raced) (sym (state_failed test e ss q fails)) ∙ h
]

-- one that is current without a race is that of work, and so is current with one
pub without_race : (raced : Option Entry) (s : State) (d : Current) → current_of None s ≡ Some d
    → current_of raced s ≡ Some d
without_race raced (Active w) d e = e
without_race raced (Racing k) d e = absurd (none-some d e)
without_race raced Absent d e = absurd (none-some d e)
without_race raced Idle d e = absurd (none-some d e)
without_race raced (Dead how) d e = absurd (none-some d e)

-- if the new state is current for the same, the tickets are the same
pub same_tickets : (raced : Option Entry) (ss : List State) (r : ℕ) (s : State)
    → current_of raced s ≡ current_of raced (state_at ss r)
    → map (current_of raced) (set ss r s) ≡ map (current_of raced) ss
same_tickets raced [] r s e = refl
same_tickets raced (t ∷ ss) zero s e = ap (λ c. c ∷ map (current_of raced) ss) e
same_tickets raced (t ∷ ss) (suc r) s e =
    ap (λ cs. current_of raced t ∷ cs) (same_tickets raced ss r s e)
