-- The multipliers of a row stand side by side, and are at most two.
use Rattle.std.proofs.Common.{◌≡◌, ◌≢◌, refl, sym, subst, inl, inr, ℕ, zero, suc, ◌+◌, ◌<◌, ◌≤◌, pos, ◌+ℤ◌, true, false, List, [], ◌∷◌, length, ltb, ne_eqb, lt-ltb, le-ltb, arith}
use Rattle.std.proofs.lemmas.Int.{ints}
use Rattle.std.proofs.lemmas.Bool.{cases_eq, cases_lt, ltb-true, ltb-false}
use Rattle.std.proofs.lemmas.List.{get_or_default}
use Rattle.std.specs.List.Sorted.{IsPartitionedBy, IsPartitionPoint}
use Rattle.ug_surrogate.specs.declared.multipliers.Side.{Side}
use Rattle.ug_surrogate.specs.declared.multipliers.Side.TheVariants.{Low, High}
use Rattle.ug_surrogate.specs.declared.multipliers.Multiplier.{Multiplier}
use Rattle.ug_surrogate.specs.Columns.{IsRowPlace, weight_if, weight_on, weight_there}
use Rattle.ug_surrogate.specs.Weights.{AreRising, IsBefore, IsLower, multiplier_at, no_multiplier}

row_at_most : (u v : Multiplier) → IsBefore u v → u.row ≤ v.row
row_at_most u v (inl less) = omega (arith, less)
row_at_most u v (inr same) = omega (arith, same.0)

no_three : (r s t : Side) → IsLower r s → IsLower s t → ⊥
no_three Low Low t h k = h
no_three Low High t h k = k
no_three High s t h k = h

lower_where_same : (u v : Multiplier) → IsBefore u v → u.row ≡ v.row → IsLower u.side v.side
lower_where_same u v (inl less) e = absurd (omega (arith, less, e))
lower_where_same u v (inr same) e = same.1

-- of three that rise the last is of a later row than the first
third_later : (u v w : Multiplier) → IsBefore u v → IsBefore v w → u.row < w.row
third_later u v w h k = elim (cases_lt u.row w.row) [
  | inl less ↦ less
  | inr more ↦ absurd (no_three u.side v.side w.side
      (lower_where_same u v h (omega (arith, more, row_at_most u v h, row_at_most v w k)))
      (lower_where_same v w k (omega (arith, more, row_at_most u v h, row_at_most v w k))))
]

none_on : (r : ℕ) (us : List Multiplier) → ((k : ℕ) → k < length us → (multiplier_at us k).row ≢ r) → weight_on r us ≡ pos 0
none_on r [] none = refl
none_on r (u ∷ us) none =
    rw (ne_eqb u.row r (none 0 (omega arith))) (omega (arith, ints, none_on r us (λ k lt. none (suc k) (omega arith))))

there_next : (r k : ℕ) (u : Multiplier) (us : List Multiplier) → weight_there r (u ∷ us) (suc k) ≡ weight_there r us k
there_next r k u us = elim (cases_lt k (length us)) [
  | inl less ↦ rw (lt-ltb k (length us) less, lt-ltb (suc k) (length (u ∷ us)) (omega arith)) refl
  | inr more ↦ rw (le-ltb k (length us) more, le-ltb (suc k) (length (u ∷ us)) (omega arith)) refl
]

there_first : (r : ℕ) (u : Multiplier) (us : List Multiplier) → weight_there r (u ∷ us) 0 ≡ weight_if r u
there_first r u us = rw (lt-ltb 0 (length (u ∷ us)) (omega arith)) refl

there_none : (r k : ℕ) → weight_there r [] k ≡ pos 0
there_none r k = rw (le-ltb k 0 (omega arith)) refl

rest_rises : (u : Multiplier) (us : List Multiplier) → AreRising (u ∷ us) → AreRising us
rest_rises u us rise i k less lt = rise (suc i) (suc k) (omega arith) (omega arith)

-- if the first is of row r or a later one, two at most are of it
first_two : (r : ℕ) (us : List Multiplier) → AreRising us → ((k : ℕ) → k < length us → r ≤ (multiplier_at us k).row)
    → weight_on r us ≡ weight_there r us 0 +ℤ weight_there r us 1
first_two r [] rise behind = omega (arith, ints, there_none r 0, there_none r 1)
first_two r (u ∷ []) rise behind =
    omega (arith, ints, there_first r u [], there_next r 0 u [], there_none r 0)
first_two r (u ∷ v ∷ us) rise behind =
    omega (
      arith,
      ints,
      there_first r u (v ∷ us),
      there_next r 0 u (v ∷ us),
      there_first r v us,
      none_on r us (λ k lt same.
          let third : u.row < (multiplier_at us k).row =
          third_later u v (multiplier_at us k) (rise 0 1 (omega arith) (omega arith)) (rise 1 (suc (suc k)) (omega arith) (omega arith)) in
          let low : r ≤ u.row = behind 0 (omega arith) in
          omega (arith, third, low, same)),
    )

pub placed_weights : (r : ℕ) (us : List Multiplier) (at next : ℕ) → next ≡ suc at → AreRising us → IsRowPlace us r at
    → weight_on r us ≡ weight_there r us at +ℤ weight_there r us next
placed_weights r us zero next e rise place =
    subst (λ (n : ℕ). weight_on r us ≡ weight_there r us 0 +ℤ weight_there r us n) (sym e)
    (first_two r us rise (λ k lt. place.behind k (omega arith) lt))
placed_weights r [] (suc at) next e rise place = omega (arith, ints, there_none r (suc at), there_none r next)
placed_weights r (u ∷ us) (suc at) next e rise place =
    let ahead : u.row < r = place.ahead 0 (omega arith) in
    let rest = placed_weights r us at (suc at) refl (rest_rises u us rise) (record {
      there = omega (arith, place.there);
      ahead = λ k lt. place.ahead (suc k) (omega arith);
      behind = λ k le lt. place.behind (suc k) (omega arith) (omega arith);
    }) in
    subst (λ (n : ℕ). weight_on r (u ∷ us) ≡ weight_there r (u ∷ us) (suc at) +ℤ weight_there r (u ∷ us) n) (sym e)
    (rw (ne_eqb u.row r (λ same. omega (arith, same, ahead)))
    (omega (arith, ints, rest, there_next r at u us, there_next r (suc at) u us)))

-- for the search
pub rows_parted : (us : List Multiplier) (row : ℕ) → AreRising us → IsPartitionedBy (λ u. ltb u.row row) us
rows_parted us row rising i j d le lt h =
    let at_j : (multiplier_at us j).row < row = ltb-true _ row (subst (λ (u : Multiplier). ltb u.row row ≡ true) (get_or_default us j d no_multiplier lt) h) in
    subst (λ (u : Multiplier). ltb u.row row ≡ true) (get_or_default us i no_multiplier d (omega arith)) (elim (cases_eq i j) [
      | inl same ↦ subst (λ k. ltb (multiplier_at us k).row row ≡ true) (sym same) (lt-ltb _ row at_j)
      | inr ne ↦ lt-ltb _ row (omega (arith, row_at_most (multiplier_at us i) (multiplier_at us j) (rising i j (omega (arith, ne)) lt), at_j))
    ])

pub row_place : (us : List Multiplier) (row at : ℕ) → at ≤ length us
    → IsPartitionPoint (λ (u : Multiplier). ltb u.row row ≡ true) (λ (u : Multiplier). ltb u.row row ≡ false) us at → IsRowPlace us row at
row_place us row at h parts = record {
  there = h;
  ahead = λ k lt. ltb-true _ row (parts.0 k no_multiplier (omega arith) lt);
  behind = λ k le lt. ltb-false _ row (parts.1 k no_multiplier le lt);
}

lower_trans : (r s t : Side) → IsLower r s → IsLower s t → IsLower r t
lower_trans r s t h k = absurd (no_three r s t h k)

before_trans : (u v w : Multiplier) → IsBefore u v → IsBefore v w → IsBefore u w
before_trans u v w h k = inl (third_later u v w h k)

-- one more stands before all that stand before the last
pub rise_next : (us : List Multiplier) (last next : ℕ) → next ≡ suc last
    → ((i j : ℕ) → i < j → j < next → IsBefore (multiplier_at us i) (multiplier_at us j))
    → IsBefore (multiplier_at us last) (multiplier_at us next)
    → (i j : ℕ) → i < j → j < next + 1 → IsBefore (multiplier_at us i) (multiplier_at us j)
rise_next us last next e so_far here i j less lt = elim (cases_eq j next) [
  | inr ne ↦ so_far i j less (omega (arith, ne, lt))
  | inl same ↦ subst (λ (n : ℕ). IsBefore (multiplier_at us i) (multiplier_at us n)) (sym same) (elim (cases_eq i last) [
    | inl first ↦ subst (λ (n : ℕ). IsBefore (multiplier_at us n) (multiplier_at us next)) (sym first) here
    | inr ne ↦ before_trans (multiplier_at us i) (multiplier_at us last) (multiplier_at us next)
        (so_far i last (omega (arith, ne, less, same, e)) (omega (arith, e))) here
  ])
]
