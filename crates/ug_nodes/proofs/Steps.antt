-- One column more is examined.
use Rattle.std.proofs.Common.{◌≡◌, ◌≢◌, inl, inr, ℕ, ◌+◌, ◌<◌, List, [], ◌∷◌, ◌++◌, length, refl, sym, ap, ◌∙◌, subst, arith}
use Rattle.std.proofs.lemmas.Bool.{cases_eq}
use Rattle.std.proofs.lemmas.List.{get_or_push, get_or_append_left, length_push}
use Rattle.ug_rows.specs.declared.area.Interval.{Interval}
use Rattle.ug_rows.specs.Boxes.{interval_at}
use Rattle.ug_nodes.specs.declared.change.Change.{Change}
use Rattle.ug_nodes.specs.Changes.{IsRising, IsListed, IsDifference, change_at, no_change, change_bounds}
use Rattle.ug_nodes.specs.Steps.{IsToldTo, change_with}

-- what holds of each change and of one more holds of each
each_push : (P : Change → Type 0) (xs : List Change) (x : Change) → ((k : ℕ) → k < length xs → P (change_at xs k)) → P x
    → (k : ℕ) → k < length (xs ++ x ∷ []) → P (change_at (xs ++ x ∷ []) k)
each_push P xs x each here k h = elim (cases_eq k (length xs)) [
  | inl e ↦ subst P (sym (get_or_push xs x no_change k (sym e))) here
  | inr ne ↦
      let lt : k < length xs = omega (arith, ne, h, length_push xs x) in
      subst P (sym (get_or_append_left xs (x ∷ []) no_change k lt)) (each k lt)
]

-- the first n columns are not described by more names
listed_push : (xs : List Change) (x : Change) (j : ℕ) → IsListed xs j → IsListed (xs ++ x ∷ []) j
listed_push xs x j n = (n.0, omega (arith, n.1, length_push xs x), ap (λ (c : Change). c.column) (get_or_append_left xs (x ∷ []) no_change n.0 n.1) ∙ n.2)

listed_last : (xs : List Change) (x : Change) → IsListed (xs ++ x ∷ []) x.column
listed_last xs x = (length xs, omega (arith, length_push xs x), ap (λ (c : Change). c.column) (get_or_push xs x no_change (length xs) refl))

rising_push : (xs : List Change) (x : Change) → IsRising xs → ((k : ℕ) → k < length xs → (change_at xs k).column < x.column) → IsRising (xs ++ x ∷ [])
rising_push xs x rising below i k lt h = elim (cases_eq k (length xs)) [
  | inl e ↦
      let ilt : i < length xs = omega (arith, e, lt) in
      subst (λ (c : Change). c.column < (change_at (xs ++ x ∷ []) k).column) (sym (get_or_append_left xs (x ∷ []) no_change i ilt))
      (subst (λ (c : Change). (change_at xs i).column < c.column) (sym (get_or_push xs x no_change k (sym e))) (below i ilt))
  | inr ne ↦
      let klt : k < length xs = omega (arith, ne, h, length_push xs x) in
      let ilt : i < length xs = omega (arith, klt, lt) in
      subst (λ (c : Change). c.column < (change_at (xs ++ x ∷ []) k).column) (sym (get_or_append_left xs (x ∷ []) no_change i ilt))
      (subst (λ (c : Change). (change_at xs i).column < c.column) (sym (get_or_append_left xs (x ∷ []) no_change k klt)) (rising i k lt klt))
]

-- of no column nothing is described
pub none_told : (root area : List Interval) → IsToldTo 0 root area []
none_told root area = record {
  rising = λ i k a b. absurd (omega arith);
  below = λ k h. absurd (omega arith);
  each = λ k h. absurd (omega arith);
  changed = λ k h. absurd (omega arith);
  kept = λ j h n. absurd (omega arith);
}

-- a column with the root's bounds needs no change
pub same_told : (n : ℕ) (root area : List Interval) (changes : List Change) → IsToldTo n root area changes
    → interval_at area n ≡ interval_at root n → IsToldTo (n + 1) root area changes
same_told n root area changes t e = record {
  rising = t.rising;
  below = λ k h. omega (arith, t.below k h);
  each = t.each;
  changed = t.changed;
  kept = λ j h not. elim (cases_eq j n) [
    | inl same ↦ subst (λ m. interval_at area m ≡ interval_at root m) (sym same) e
    | inr ne ↦ t.kept j (omega (arith, ne, h)) not
  ];
}

-- another is described by its change
pub other_told : (n : ℕ) (root area : List Interval) (changes : List Change) → IsToldTo n root area changes
    → n < length root → interval_at area n ≢ interval_at root n
    → IsToldTo (n + 1) root area (changes ++ change_with n (interval_at area n) ∷ [])
other_told n root area changes t there ne = record {
  rising = rising_push changes _ t.rising t.below;
  below = each_push (λ c. c.column < n + 1) changes _ (λ k h. omega (arith, t.below k h)) (omega arith);
  each = each_push (λ c. IsDifference root c) changes _ t.each (record { there = there; other = ne });
  changed = each_push (λ c. interval_at area c.column ≡ change_bounds c) changes _ t.changed refl;
  kept = λ j h not. elim (cases_eq j n) [
    | inl same ↦ absurd (not (subst (λ m. IsListed (changes ++ change_with n (interval_at area n) ∷ []) m) (sym same) (listed_last changes (change_with n (interval_at area n)))))
    | inr other ↦ t.kept j (omega (arith, other, h)) (λ named. not (listed_push changes _ j named))
  ];
}
