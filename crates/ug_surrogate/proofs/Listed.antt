-- Multipliers that are listed row by row.
use Rattle.std.proofs.Common.{◌≡◌, refl, sym, ap, subst, inl, inr, ℕ, zero, suc, ◌+◌, ◌<◌, List, [], ◌∷◌, ◌++◌, length, arith}
use Rattle.std.proofs.lemmas.Bool.{cases_lt}
use Rattle.std.proofs.lemmas.List.{length-append}
use Rattle.ug_problem.specs.Instances.{Instance}
use Rattle.ug_surrogate.specs.declared.multipliers.Multiplier.{Multiplier}
use Rattle.ug_surrogate.specs.Subgradients.{AreOfRowsBelow}
use Rattle.ug_surrogate.specs.Weights.{AreRising, HasSide, IsBefore, multiplier_at}

pub none_yet : (p : Instance) → AreOfRowsBelow p 0 []
none_yet p = record {
  rising = λ i k less lt. absurd (omega arith);
  below = λ k lt. absurd (omega arith);
  sides = λ k lt. absurd (omega arith);
}

pub none_added : (p : Instance) (n : ℕ) (list : List Multiplier) → AreOfRowsBelow p n list → AreOfRowsBelow p (n + 1) list
none_added p n list are = record {
  rising = are.rising;
  below = λ k lt. omega (arith, are.below k lt);
  sides = are.sides;
}

at_before : (us : List Multiplier) (u : Multiplier) (k : ℕ) → k < length us → multiplier_at (us ++ u ∷ []) k ≡ multiplier_at us k
at_before [] u k h = absurd (omega arith)
at_before (v ∷ us) u zero h = refl
at_before (v ∷ us) u (suc k) h = at_before us u k (omega arith)

at_last : (us : List Multiplier) (u : Multiplier) (k : ℕ) → k ≡ length us → multiplier_at (us ++ u ∷ []) k ≡ u
at_last [] u k h = ap (λ (i : ℕ). multiplier_at (u ∷ []) i) h
at_last (v ∷ us) u zero h = absurd (omega (arith, h))
at_last (v ∷ us) u (suc k) h = at_last us u k (omega (arith, h))

more_length : (us : List Multiplier) (u : Multiplier) → length (us ++ u ∷ []) ≡ length us + 1
more_length us u = length-append us (u ∷ [])

each_more : (P : Multiplier → Type 0) (us : List Multiplier) (u : Multiplier) → ((k : ℕ) → k < length us → P (multiplier_at us k)) → P u
    → (k : ℕ) → k < length (us ++ u ∷ []) → P (multiplier_at (us ++ u ∷ []) k)
each_more P us u each last k lt = elim (cases_lt k (length us)) [
  | inl less ↦ subst P (sym (at_before us u k less)) (each k less)
  | inr more ↦ subst P (sym (at_last us u k (omega (arith, more, lt, more_length us u)))) last
]

more_rising : (p : Instance) (us : List Multiplier) (u : Multiplier) → AreOfRowsBelow p u.row us → AreRising (us ++ u ∷ [])
more_rising p us u are i k less lt =
    let first : i < length us = omega (arith, less, lt, more_length us u) in
    subst (λ (v : Multiplier). IsBefore v (multiplier_at (us ++ u ∷ []) k)) (sym (at_before us u i first)) (elim (cases_lt k (length us)) [
      | inl inner ↦ subst (λ (v : Multiplier). IsBefore (multiplier_at us i) v) (sym (at_before us u k inner)) (are.rising i k less inner)
      | inr more ↦ subst (λ (v : Multiplier). IsBefore (multiplier_at us i) v) (sym (at_last us u k (omega (arith, more, lt, more_length us u))))
          (inl (are.below i first))
    ])

pub one_added : (p : Instance) (us : List Multiplier) (u : Multiplier) → AreOfRowsBelow p u.row us → HasSide p u
    → AreOfRowsBelow p (u.row + 1) (us ++ u ∷ [])
one_added p us u are side = record {
  rising = more_rising p us u are;
  below = each_more (λ (v : Multiplier). v.row < u.row + 1) us u (λ k lt. omega (arith, are.below k lt)) (omega arith);
  sides = each_more (HasSide p) us u are.sides side;
}
