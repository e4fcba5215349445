-- An entry is put in at its place, and entries from a floor on are cut off.
use Rattle.std.proofs.Common.{◌≡◌, ℕ, zero, suc, ℤ, ◌≤ℤ◌, ◌+◌, ◌-◌, ◌<◌, ◌≤◌, Bool, true, false, not, inl, inr, int_lt, List, [], ◌∷◌, ◌++◌, length, filter, take, drop, refl, sym, ap, ◌∙◌, subst, arith}
use Rattle.std.specs.List.{insert}
use Rattle.std.specs.List.Sorted.{IsPartitionedBy, IsPartitionPoint}
use Rattle.std.proofs.lemmas.Int.{ints}
use Rattle.std.proofs.lemmas.Bool.{cases_eq, cases_order}
use Rattle.std.proofs.lemmas.List.{get_or_default, get_or-take, length-take-le}
use Rattle.std.proofs.lemmas.List.Edits.{length-insert, get_or-insert_below, get_or-insert_at, get_or-insert_above}
use Rattle.ug_pool.specs.declared.entry.Entry.{Entry}
use Rattle.ug_pool.specs.Pools.{is_before, entry_at, no_entry, IsInOrder, with_entry, with_floor_below}
use Rattle.ug_pool.specs.Steps.{IsPlace}
use Rattle.ug_pool.proofs.Orders.{not_before_along, one_way, floors_rise}

-- if a test holds of the first i entries and of no other, it picks those
pub filter_take : (p : Entry → Bool) (xs : List Entry) (i : ℕ) → ((k : ℕ) → k < i → p (entry_at xs k) ≡ true)
    → ((k : ℕ) → i ≤ k → k < length xs → p (entry_at xs k) ≡ false) → i ≤ length xs → filter p xs ≡ take i xs
filter_take p [] zero holds fails h = refl
filter_take p [] (suc i) holds fails h = refl
filter_take p (x ∷ xs) zero holds fails h =
    rw (fails 0 (omega arith) (omega arith)) (filter_take p xs zero (λ k lt. absurd (omega arith)) (λ k le lt. fails (suc k) (omega arith) (omega arith)) (omega arith))
filter_take p (x ∷ xs) (suc i) holds fails h =
    rw (holds 0 (omega arith)) (ap (λ ys. x ∷ ys) (filter_take p xs i (λ k lt. holds (suc k) (omega arith)) (λ k le lt. fails (suc k) (omega arith) (omega arith)) (omega arith)))

-- if it holds of none of them and of each other, it picks the others
pub filter_drop : (p : Entry → Bool) (xs : List Entry) (i : ℕ) → ((k : ℕ) → k < i → p (entry_at xs k) ≡ false)
    → ((k : ℕ) → i ≤ k → k < length xs → p (entry_at xs k) ≡ true) → i ≤ length xs → filter p xs ≡ drop i xs
filter_drop p [] zero fails holds h = refl
filter_drop p [] (suc i) fails holds h = refl
filter_drop p (x ∷ xs) zero fails holds h =
    rw (holds 0 (omega arith) (omega arith)) (ap (λ ys. x ∷ ys) (filter_drop p xs zero (λ k lt. absurd (omega arith)) (λ k le lt. holds (suc k) (omega arith) (omega arith)) (omega arith)))
filter_drop p (x ∷ xs) (suc i) fails holds h =
    rw (fails 0 (omega arith)) (filter_drop p xs i (λ k lt. fails (suc k) (omega arith)) (λ k le lt. holds (suc k) (omega arith) (omega arith)) (omega arith))

-- an entry that is put in at its place is placed
pub insert_with_entry : (e : Entry) (xs : List Entry) (at : ℕ) → IsPlace e xs at → insert xs at e ≡ with_entry e xs
insert_with_entry e xs at h =
    let ahead = filter_take (λ x. not (is_before e x)) xs at (λ k lt. ap not (h.ahead k lt)) (λ k le lt. ap not (h.behind k le lt)) h.there in
    let behind = filter_drop (λ x. is_before e x) xs at h.ahead h.behind h.there in
    sym (ap (λ ys. ys ++ e ∷ filter (λ x. is_before e x) xs) ahead ∙ ap (λ ys. take at xs ++ e ∷ ys) behind)

-- the entry at each place after it
after_insert : (e : Entry) (xs : List Entry) (at : ℕ) (P : Entry → Type 0) (k : ℕ) → at ≤ length xs
    → (k < at → P (entry_at xs k)) → (k ≡ at → P e) → (at < k → P (entry_at xs (k - 1))) → P (entry_at (insert xs at e) k)
after_insert e xs at P k h below here above = elim (cases_order k at) [
  | inl same ↦ subst (λ j. P (entry_at (insert xs at e) j)) (sym same) (subst P (sym (get_or-insert_at xs at e no_entry h)) (here same))
  | inr (inl lt) ↦ subst P (sym (get_or-insert_below xs at e no_entry k lt h)) (below lt)
  | inr (inr gt) ↦ subst (λ j. P (entry_at (insert xs at e) j)) {x = k - 1 + 1} (omega arith)
      (subst P (sym (get_or-insert_above xs at e no_entry (k - 1) (omega arith) h)) (above gt))
]

-- and the entries stay in order
pub insert_in_order : (e : Entry) (xs : List Entry) (at : ℕ) → IsInOrder xs → IsPlace e xs at → IsInOrder (insert xs at e)
insert_in_order e xs at order h i k lt within =
    let n = length-insert xs at e h.there in
    after_insert e xs at (λ later. is_before later (entry_at (insert xs at e) i) ≡ false) k h.there
    (λ k_below. after_insert e xs at (λ earlier. is_before (entry_at xs k) earlier ≡ false) i h.there
    (λ i_below. order i k lt (omega (arith, h.there)))
    (λ same. absurd (omega arith))
    (λ above. absurd (omega arith)))
    (λ k_here. after_insert e xs at (λ earlier. is_before e earlier ≡ false) i h.there
    (λ i_below. h.ahead i i_below)
    (λ same. absurd (omega arith))
    (λ above. absurd (omega arith)))
    (λ k_above. after_insert e xs at (λ earlier. is_before (entry_at xs (k - 1)) earlier ≡ false) i h.there
    (λ i_below. order i (k - 1) (omega arith) (omega (arith, n)))
    (λ same. one_way e (entry_at xs (k - 1)) (h.behind (k - 1) (omega arith) (omega (arith, n))))
    (λ i_above. order (i - 1) (k - 1) (omega arith) (omega (arith, n))))

-- a first part of entries in order is in order
pub take_in_order : (xs : List Entry) (n : ℕ) → IsInOrder xs → n ≤ length xs → IsInOrder (take n xs)
take_in_order xs n order h i k lt within =
    let size = length-take-le n xs h in
    let klt : k < n = omega (arith, size, within) in
    subst (λ later. is_before later (entry_at (take n xs) i) ≡ false) (sym (get_or-take n xs k no_entry klt))
    (subst (λ earlier. is_before (entry_at xs k) earlier ≡ false) (sym (get_or-take n xs i no_entry (omega arith)))
    (order i k lt (omega arith)))

-- so are the entries behind the first
pub rest_in_order : (e : Entry) (xs : List Entry) → IsInOrder (e ∷ xs) → IsInOrder xs
rest_in_order e xs order i k lt within = order (suc i) (suc k) (omega arith) (omega arith)

not_false : (b : Bool) → not b ≡ true → b ≡ false
not_false true h = cc
not_false false h = refl

-- the test of a place holds of a first part of the entries
pub not_before_parts : (e : Entry) (xs : List Entry) → IsInOrder xs → IsPartitionedBy (λ x. not (is_before e x)) xs
not_before_parts e xs order i j d le lt h =
    let at_j : is_before e (entry_at xs j) ≡ false = not_false _ (subst (λ x. not (is_before e x) ≡ true) (get_or_default xs j d no_entry lt) h) in
    subst (λ x. not (is_before e x) ≡ true) (get_or_default xs i no_entry d (omega arith)) (ap not (elim (cases_eq i j) [
      | inl same ↦ subst (λ k. is_before e (entry_at xs k) ≡ false) (sym same) at_j
      | inr ne ↦ not_before_along (entry_at xs i) (entry_at xs j) e (order i j (omega arith) lt) at_j
    ]))

below_along : (a b value : ℤ) → a ≤ℤ b → int_lt b value ≡ true → int_lt a value ≡ true
below_along a b value h k = grind (arith, ints)

-- so does the test of a floor
pub floor_parts : (value : ℤ) (xs : List Entry) → IsInOrder xs → IsPartitionedBy (λ x. int_lt x.floor value) xs
floor_parts value xs order i j d le lt h =
    let at_j : int_lt (entry_at xs j).floor value ≡ true = subst (λ (x : Entry). int_lt x.floor value ≡ true) (get_or_default xs j d no_entry lt) h in
    subst (λ (x : Entry). int_lt x.floor value ≡ true) (get_or_default xs i no_entry d (omega arith)) (elim (cases_eq i j) [
      | inl same ↦ subst (λ k. int_lt (entry_at xs k).floor value ≡ true) (sym same) at_j
      | inr ne ↦ below_along (entry_at xs i).floor (entry_at xs j).floor value (floors_rise (entry_at xs i) (entry_at xs j) (order i j (omega arith) lt)) at_j
    ])

-- the place that a partition of a test gives
pub place_from_parts : (e : Entry) (xs : List Entry) (at : ℕ) → at ≤ length xs
    → IsPartitionPoint (λ x. not (is_before e x) ≡ true) (λ x. not (is_before e x) ≡ false) xs at → IsPlace e xs at
place_from_parts e xs at h parts = record {
  there = h;
  ahead = λ k lt. not_false _ (parts.0 k no_entry (omega arith) lt);
  behind = λ k le lt. not_true _ (parts.1 k no_entry le lt);
}
  where
    not_true : (b : Bool) → not b ≡ false → b ≡ true
    not_true true h = refl
    not_true false h = cc

-- the entries of smaller floor are a first part
pub below_from_parts : (value : ℤ) (xs : List Entry) (at : ℕ) → at ≤ length xs
    → IsPartitionPoint (λ x. int_lt x.floor value ≡ true) (λ x. int_lt x.floor value ≡ false) xs at → take at xs ≡ with_floor_below value xs
below_from_parts value xs at h parts = sym (filter_take (λ x. int_lt x.floor value) xs at
    (λ k lt. parts.0 k no_entry (omega arith) lt) (λ k le lt. parts.1 k no_entry le lt) h)
