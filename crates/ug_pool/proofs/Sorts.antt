-- An unsorted list in order: what is taken from it, and what is dropped.
use Rattle.std.proofs.Common.{◌≡◌, ℕ, zero, suc, ◌+◌, Bool, true, false, cond, not, inl, inr, List, [], ◌∷◌, ◌++◌, length, filter, refl, sym, ap, ◌∙◌, subst, arith}
use Rattle.std.specs.List.{remove}
use Rattle.std.proofs.lemmas.Bool.{cases_eq, cases_order}
use Rattle.std.proofs.lemmas.List.{length-append}
use Rattle.std.proofs.lemmas.List.Elements.{filter-append}
use Rattle.std.proofs.lemmas.List.Filters.{length-filter_both}
use Rattle.ug_pool.specs.declared.entry.Entry.{Entry}
use Rattle.ug_pool.specs.Pools.{is_before, entry_at, IsInOrder, with_entry}
use Rattle.ug_pool.specs.Plain.{in_order, IsLeast}
use Rattle.ug_pool.proofs.Orders.{not_before_along, before_along, one_way}
use Rattle.ug_pool.proofs.Rises.{Each, Rises, each_append, each_filter, each_from_index, order_from_rises}

-- the entry itself is the least of one
pub first_least : (xs : List Entry) → IsLeast 1 xs 0
first_least xs = record {
  there = omega arith;
  ahead = λ k lt. absurd (omega arith);
  behind = λ k gt lt. absurd (omega arith);
}

-- the least stays so, if it is before one more
pub least_stays : (xs : List Entry) (n best : ℕ) → IsLeast n xs best → is_before (entry_at xs best) (entry_at xs n) ≡ true → IsLeast (n + 1) xs best
least_stays xs n best h b = record {
  there = omega (arith, h.there);
  ahead = h.ahead;
  behind = λ k gt lt. elim (cases_eq k n) [
    | inl same ↦ subst (λ j. is_before (entry_at xs best) (entry_at xs j) ≡ true) (sym same) b
    | inr ne ↦ h.behind k gt (omega arith)
  ];
}

-- else the one more is the least
pub least_changes : (xs : List Entry) (n best : ℕ) → IsLeast n xs best → is_before (entry_at xs best) (entry_at xs n) ≡ false → IsLeast (n + 1) xs n
least_changes xs n best h b = record {
  there = omega arith;
  ahead = λ k lt. elim (cases_order k best) [
    | inl same ↦ subst (λ j. is_before (entry_at xs j) (entry_at xs n) ≡ false) (sym same) b
    | inr (inl less) ↦ not_before_along (entry_at xs n) (entry_at xs best) (entry_at xs k) b (h.ahead k less)
    | inr (inr more) ↦ not_before_along (entry_at xs n) (entry_at xs best) (entry_at xs k) b (one_way (entry_at xs best) (entry_at xs k) (h.behind k more lt))
  ];
  behind = λ k gt lt. absurd (omega arith);
}

each_in_order : (P : Entry → Type 0) (xs : List Entry) → Each P xs → Each P (in_order xs)
each_in_order P [] a = tt
each_in_order P (x ∷ xs) a =
    let rest = each_in_order P xs a.1 in
    each_append P _ _ (each_filter P _ (in_order xs) rest) (a.0, each_filter P _ (in_order xs) rest)

-- a test that holds of each picks each, and one that holds of none picks none
filter_each : (p : Entry → Bool) (xs : List Entry) → Each (λ x. p x ≡ true) xs → filter p xs ≡ xs
filter_each p [] a = refl
filter_each p (x ∷ xs) a = rw a.0 (ap (λ ys. x ∷ ys) (filter_each p xs a.1))

filter_none : (p : Entry → Bool) (xs : List Entry) → Each (λ x. p x ≡ false) xs → filter p xs ≡ []
filter_none p [] a = refl
filter_none p (x ∷ xs) a = rw a.0 (filter_none p xs a.1)

each_not : (p : Entry → Bool) (xs : List Entry) → Each (λ x. p x ≡ true) xs → Each (λ x. not (p x) ≡ false) xs
each_not p [] a = tt
each_not p (x ∷ xs) a = (ap not a.0, each_not p xs a.1)

-- an entry before all others is placed first
with_entry_first : (e : Entry) (xs : List Entry) → Each (λ x. is_before e x ≡ true) xs → with_entry e xs ≡ e ∷ xs
with_entry_first e xs a =
    ap (λ ys. ys ++ e ∷ filter (λ x. is_before e x) xs) (filter_none (λ x. not (is_before e x)) xs (each_not (λ x. is_before e x) xs a))
    ∙ ap (λ ys. e ∷ ys) (filter_each (λ x. is_before e x) xs a)

-- an entry that is not before the first is placed behind it
with_entry_later : (e x : Entry) (xs : List Entry) → is_before e x ≡ false → with_entry e (x ∷ xs) ≡ x ∷ with_entry e xs
with_entry_later e x xs h = rw h refl

-- the least of a list comes first in its order
pub least_first : (xs : List Entry) (at : ℕ) → IsLeast (length xs) xs at → in_order xs ≡ entry_at xs at ∷ in_order (remove xs at)
least_first [] at h = absurd (omega (arith, h.there))
least_first (e ∷ xs) zero h =
    with_entry_first e (in_order xs) (each_in_order (λ x. is_before e x ≡ true) xs (each_from_index (λ x. is_before e x ≡ true) xs (λ k lt. h.behind (suc k) (omega arith) (omega arith))))
least_first (e ∷ xs) (suc at) h =
    let inner : IsLeast (length xs) xs at = record {
      there = omega (arith, h.there);
      ahead = λ k lt. h.ahead (suc k) (omega arith);
      behind = λ k gt lt. h.behind (suc k) (omega arith) (omega arith);
    } in
    ap (λ ys. with_entry e ys) (least_first xs at inner) ∙ with_entry_later e (entry_at xs at) (in_order (remove xs at)) (h.ahead 0 (omega arith))

-- no entry is lost
pub length_in_order : (xs : List Entry) → length (in_order xs) ≡ length xs
length_in_order [] = refl
length_in_order (e ∷ xs) =
    let ys = in_order xs in
    let ih : length ys ≡ length xs = length_in_order xs in
    let parts = length-filter_both (λ x. is_before e x) (λ x. not (is_before e x)) (λ x. refl) ys in
    omega (arith, ih, parts, length-append (filter (λ x. not (is_before e x)) ys) (e ∷ filter (λ x. is_before e x) ys))

-- two tests may be made in either order
filter_swap : (p q : Entry → Bool) (xs : List Entry) → filter p (filter q xs) ≡ filter q (filter p xs)
filter_swap p q [] = refl
filter_swap p q (x ∷ xs) = by_tests (filter_swap p q xs) (p x) (q x) refl refl
  where
    by_tests : filter p (filter q xs) ≡ filter q (filter p xs) → (a b : Bool) → p x ≡ a → q x ≡ b
        → filter p (filter q (x ∷ xs)) ≡ filter q (filter p (x ∷ xs))
    by_tests rest true true e f = simp (e, f) (ap (λ ys. x ∷ ys) rest)
    by_tests rest true false e f = simp (e, f) rest
    by_tests rest false true e f = simp (e, f) rest
    by_tests rest false false e f = simp (e, f) rest

each_weaker : (P Q : Entry → Type 0) → ((x : Entry) → P x → Q x) → (xs : List Entry) → Each P xs → Each Q xs
each_weaker P Q w [] a = tt
each_weaker P Q w (x ∷ xs) a = (w x a.0, each_weaker P Q w xs a.1)

-- an entry before the first of rising entries is before each
before_each : (e x : Entry) (xs : List Entry) → is_before e x ≡ true → Each (λ y. is_before y x ≡ false) xs → Each (λ y. is_before e y ≡ true) xs
before_each e x [] b a = tt
before_each e x (y ∷ ys) b a = (before_along e x y b a.0, before_each e x ys b a.1)

with_entry_rises : (e : Entry) (xs : List Entry) → Rises xs → Rises (with_entry e xs)
with_entry_rises e [] r = (tt, tt)
with_entry_rises e (x ∷ xs) r = by_test (with_entry_rises e xs r.1) (is_before e x) refl
  where
    by_test : Rises (with_entry e xs) → (b : Bool) → is_before e x ≡ b → Rises (with_entry e (x ∷ xs))
    by_test rest false h = subst Rises (sym (with_entry_later e x xs h))
        (each_append (λ y. is_before y x ≡ false) _ _ (each_filter (λ y. is_before y x ≡ false) _ xs r.0) (h, each_filter (λ y. is_before y x ≡ false) _ xs r.0), rest)
    by_test rest true h =
        let all : Each (λ y. is_before e y ≡ true) (x ∷ xs) = (h, before_each e x xs h r.0) in
        subst Rises (sym (with_entry_first e (x ∷ xs) all))
        (each_weaker (λ y. is_before e y ≡ true) (λ y. is_before y e ≡ false) (λ y b. one_way e y b) (x ∷ xs) all, r)

in_order_rises : (xs : List Entry) → Rises (in_order xs)
in_order_rises [] = tt
in_order_rises (e ∷ xs) = with_entry_rises e (in_order xs) (in_order_rises xs)

-- the list in order is in order
pub is_in_order : (xs : List Entry) → IsInOrder (in_order xs)
is_in_order xs = order_from_rises (in_order xs) (in_order_rises xs)

-- an entry that a test picks is placed among those that it picks
with_entry_kept : (q : Entry → Bool) (e : Entry) (xs : List Entry) → q e ≡ true → filter q (with_entry e xs) ≡ with_entry e (filter q xs)
with_entry_kept q e xs h =
    let p : Entry → Bool = λ x. is_before e x in
    let n : Entry → Bool = λ x. not (is_before e x) in
    filter-append q (filter n xs) (e ∷ filter p xs)
    ∙ rw h (ap (λ ys. ys ++ e ∷ filter q (filter p xs)) (filter_swap q n xs) ∙ ap (λ ys. filter n (filter q xs) ++ e ∷ ys) (filter_swap q p xs))

-- another leaves nothing
with_entry_dropped : (q : Entry → Bool) (e : Entry) (xs : List Entry) → q e ≡ false → Rises xs → filter q (with_entry e xs) ≡ filter q xs
with_entry_dropped q e [] h r = rw h refl
with_entry_dropped q e (x ∷ xs) h r = by_test (with_entry_dropped q e xs h r.1) (is_before e x) refl
  where
    by_test : filter q (with_entry e xs) ≡ filter q xs → (b : Bool) → is_before e x ≡ b → filter q (with_entry e (x ∷ xs)) ≡ filter q (x ∷ xs)
    by_test rest true before =
        ap (λ ys. filter q ys) (with_entry_first e (x ∷ xs) (before, before_each e x xs before r.0)) ∙ rw h refl
    by_test rest false behind =
        ap (λ ys. filter q ys) (with_entry_later e x xs behind) ∙ ap (λ ys. cond (q x) (x ∷ ys) ys) rest

-- what a test picks of the list in order is in order what it picks of the list
pub filter_of_order : (q : Entry → Bool) (xs : List Entry) → filter q (in_order xs) ≡ in_order (filter q xs)
filter_of_order q [] = refl
filter_of_order q (e ∷ xs) = by_test (filter_of_order q xs) (q e) refl
  where
    by_test : filter q (in_order xs) ≡ in_order (filter q xs) → (b : Bool) → q e ≡ b → filter q (in_order (e ∷ xs)) ≡ in_order (filter q (e ∷ xs))
    by_test rest true h = rw h (with_entry_kept q e (in_order xs) h ∙ ap (λ ys. with_entry e ys) rest)
    by_test rest false h = rw h (with_entry_dropped q e (in_order xs) h (in_order_rises xs) ∙ rest)
