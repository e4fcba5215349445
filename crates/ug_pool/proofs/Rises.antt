-- Entries in order, said along the list: each is before none that precedes it.
use Rattle.std.proofs.Common.{◌≡◌, ℕ, zero, suc, ◌<◌, Bool, true, false, cond, List, [], ◌∷◌, ◌++◌, length, filter, arith}
use Rattle.ug_pool.specs.declared.entry.Entry.{Entry}
use Rattle.ug_pool.specs.Pools.{is_before, entry_at, IsInOrder}

-- a fact of each entry
abbrev pub Each : (Entry → Type 0) → List Entry → Type 0
Each P [] = Unit {0}
Each P (x ∷ xs) = P x × Each P xs

pub each_append : (P : Entry → Type 0) (xs ys : List Entry) → Each P xs → Each P ys → Each P (xs ++ ys)
each_append P [] ys a b = b
each_append P (x ∷ xs) ys a b = (a.0, each_append P xs ys a.1 b)

pub each_filter : (P : Entry → Type 0) (p : Entry → Bool) (xs : List Entry) → Each P xs → Each P (filter p xs)
each_filter P p [] a = tt
each_filter P p (x ∷ xs) a = elim (p x) as (λ b. Each P (cond b (x ∷ filter p xs) (filter p xs))) [
  | true ↦ (a.0, each_filter P p xs a.1)
  | false ↦ each_filter P p xs a.1
]

pub each_from_index : (P : Entry → Type 0) (xs : List Entry) → ((k : ℕ) → k < length xs → P (entry_at xs k)) → Each P xs
each_from_index P [] h = tt
each_from_index P (x ∷ xs) h = (h 0 (omega arith), each_from_index P xs (λ k lt. h (suc k) (omega arith)))

-- each entry is before none that precedes it, said along the list
abbrev pub Rises : List Entry → Type 0
Rises [] = Unit {0}
Rises (x ∷ xs) = Each (λ y. is_before y x ≡ false) xs × Rises xs

each_at : (P : Entry → Type 0) (xs : List Entry) → Each P xs → (k : ℕ) → k < length xs → P (entry_at xs k)
each_at P [] a k h = absurd (omega arith)
each_at P (x ∷ xs) a zero h = a.0
each_at P (x ∷ xs) a (suc k) h = each_at P xs a.1 k (omega arith)

pub order_from_rises : (xs : List Entry) → Rises xs → IsInOrder xs
order_from_rises [] r i k lt h = absurd (omega arith)
order_from_rises (x ∷ xs) r zero zero lt h = absurd (omega arith)
order_from_rises (x ∷ xs) r zero (suc k) lt h = each_at (λ y. is_before y x ≡ false) xs r.0 k (omega arith)
order_from_rises (x ∷ xs) r (suc i) zero lt h = absurd (omega arith)
order_from_rises (x ∷ xs) r (suc i) (suc k) lt h = order_from_rises xs r.1 i k (omega arith) (omega arith)

rises_from_order : (xs : List Entry) → IsInOrder xs → Rises xs
rises_from_order [] order = tt
rises_from_order (x ∷ xs) order = (
  each_from_index (λ y. is_before y x ≡ false) xs (λ k h. order 0 (suc k) (omega arith) (omega arith)),
  rises_from_order xs (λ i k lt h. order (suc i) (suc k) (omega arith) (omega arith)),
)

rises_filter : (p : Entry → Bool) (xs : List Entry) → Rises xs → Rises (filter p xs)
rises_filter p [] r = tt
rises_filter p (x ∷ xs) r = elim (p x) as (λ b. Rises (cond b (x ∷ filter p xs) (filter p xs))) [
  | true ↦ (each_filter (λ y. is_before y x ≡ false) p xs r.0, rises_filter p xs r.1)
  | false ↦ rises_filter p xs r.1
]

-- what a test picks of entries in order is in order
pub filter_in_order : (p : Entry → Bool) (xs : List Entry) → IsInOrder xs → IsInOrder (filter p xs)
filter_in_order p xs order = order_from_rises (filter p xs) (rises_filter p xs (rises_from_order xs order))
