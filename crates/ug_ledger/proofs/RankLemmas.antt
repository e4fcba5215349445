-- What the tickets of the ranks are current for, after one was written.
use Rattle.std.proofs.Common.{◌≡◌, ◌≢◌, ◌⊎◌, inl, inr, ℕ, ◌<◌, length, set, sym, ◌∙◌, subst}
use Rattle.std.specs.Prelude.{Some, None, slice_index_or}
use Rattle.std.proofs.lemmas.Bool.{cases_eq}
use Rattle.std.proofs.lemmas.List.{get_or-set_same, get_or-set_other}
use Rattle.std.proofs.lemmas.Option.{same_Some}
use Rattle.ug_ledger.specs.Ledgers.{Current, IsCurrent, Ledger}

-- if the ticket of rank r was made current for c
module _ (old new : Ledger) (r : ℕ) (c : Current) (there : r < length old.ranks)
    (ranks : new.ranks ≡ set old.ranks r (Some c)) where
  -- it is
  pub set_here : IsCurrent new r c
  set_here = subst (λ rs. slice_index_or rs r None ≡ Some c) (sym ranks)
      (get_or-set_same old.ranks r (Some c) None there)

  -- those of other ranks are what they were
  pub set_kept : (q : ℕ) (d : Current) → q ≢ r → IsCurrent old q d → IsCurrent new q d
  set_kept q d ne h = subst (λ rs. slice_index_or rs q None ≡ Some d) (sym ranks)
      (get_or-set_other old.ranks r q (Some c) None ne ∙ h)

  -- and there are no others
  pub set_cases : (q : ℕ) (d : Current) → IsCurrent new q d
      → ((q ≡ r) × (d ≡ c)) ⊎ ((q ≢ r) × IsCurrent old q d)
  set_cases q d h = elim (cases_eq q r) [
    | inl same ↦
        let here : IsCurrent new r d = subst (λ k. IsCurrent new k d) same h in
        inl (same, sym (same_Some c d (sym set_here ∙ here)))
    | inr ne ↦
        let at = subst (λ rs. slice_index_or rs q None ≡ Some d) ranks h in
        inr (ne, sym (get_or-set_other old.ranks r q (Some c) None ne) ∙ at)
  ]
