-- How the least sum of terms moves with the changes.
use Rattle.std.proofs.Common.{◌≡◌, ◌≢◌, inl, inr, ℕ, suc, zero, ◌+◌, ◌*◌, ◌^◌, ◌<◌, ◌≤◌, ℤ, ◌+ℤ◌, ◌-ℤ◌, ◌*ℤ◌, unsigned_abs, ◌-◌, FitsSigned, true, false, ltb, List, [], ◌∷◌, length, set, take, sym, ap, ◌∙◌, subst, arith}
use Rattle.std.specs.List.Sorted.{IsPartitionedBy, IsPartitionPoint}
use Rattle.std.proofs.lemmas.Int.{ints, fits_signed_from_abs, to_z-of_z}
use mir.Syntax.{w128}
use mir.Val.{to_z, of_z}
use Rattle.std.proofs.lemmas.Bool.{cases_eq, cases_lt}
use Rattle.std.proofs.lemmas.Bool.Decides.{nat_tests}
use Rattle.std.proofs.lemmas.List.{get_or_default, get_or-take, length-take-le}
use Rattle.ug_rows.specs.declared.area.Interval.{Interval}
use Rattle.ug_rows.specs.declared.row.Term.{Term}
use Rattle.ug_rows.specs.declared.sums.Extreme.TheVariants.{Least}
use Rattle.ug_rows.specs.Boxes.{interval_at}
use Rattle.ug_rows.specs.Rows.{IsAmong, IsLinear, no_term, term_at}
use Rattle.ug_rows.specs.Sums.{end_of, end_product, least_sum}
use Rattle.ug_rows.proofs.Products.{abs_add, abs_sub}
use Rattle.ug_rows.proofs.Replaced.{product_new, sum_with, sum_without}
use Rattle.ug_nodes.specs.declared.change.Change.{Change}
use Rattle.ug_nodes.specs.Changes.{IsRising, IsListed, AreChangesOf, area_by, change_at, change_bounds, no_change}
use Rattle.ug_nodes.specs.Steps.{DoColumnsRise, IsColumnPlace}
use Rattle.ug_nodes.proofs.Areas.{area_by_more, area_by_kept, area_by_width}

-- a total less one product, and with another, is no larger than its parts, and fits
less_fits : (total old : ℤ) → unsigned_abs total ≤ 16 * 10 ^ 37 → unsigned_abs old ≤ 10 ^ 24 * 2 ^ 31 → FitsSigned w128 (total -ℤ old)
less_fits total old large small = fits_signed_from_abs w128 (total -ℤ old) (omega (arith, abs_sub total old))

pub replaced_small : (total old new : ℤ) → unsigned_abs old ≤ 10 ^ 24 * 2 ^ 31 → unsigned_abs new ≤ 10 ^ 24 * 2 ^ 31
    → unsigned_abs ((total -ℤ old) +ℤ new) ≤ unsigned_abs total + 10 ^ 24 * 2 ^ 32
replaced_small total old new small small' = omega (arith, abs_sub total old, abs_add (total -ℤ old) new)

replaced_fits : (total old new : ℤ) → unsigned_abs total ≤ 16 * 10 ^ 37 → unsigned_abs old ≤ 10 ^ 24 * 2 ^ 31 → unsigned_abs new ≤ 10 ^ 24 * 2 ^ 31
    → FitsSigned w128 ((total -ℤ old) +ℤ new)
replaced_fits total old new large small small' =
    fits_signed_from_abs w128 ((total -ℤ old) +ℤ new) (omega (arith, replaced_small total old new small small'))

-- what the code of `replaced` gives
pub replaced_in_code : (total old new : ℤ) → unsigned_abs total ≤ 16 * 10 ^ 37 → unsigned_abs old ≤ 10 ^ 24 * 2 ^ 31
    → unsigned_abs new ≤ 10 ^ 24 * 2 ^ 31
    → to_z w128 (of_z w128 (to_z w128 (of_z w128 (to_z w128 (of_z w128 total) -ℤ to_z w128 (of_z w128 old))) +ℤ to_z w128 (of_z w128 new)))
    ≡ (total -ℤ old) +ℤ new
replaced_in_code total old new large small small' =
    let total_fits : FitsSigned w128 total = fits_signed_from_abs w128 total (omega arith) in
    let old_fits : FitsSigned w128 old = fits_signed_from_abs w128 old (omega arith) in
    let new_fits : FitsSigned w128 new = fits_signed_from_abs w128 new (omega arith) in
    let difference : FitsSigned w128 (total -ℤ old) = less_fits total old large small in
    let sum : FitsSigned w128 ((total -ℤ old) +ℤ new) = replaced_fits total old new large small small' in
    simp to_z-of_z

pub replaced_in_range : (total old new : ℤ) → unsigned_abs total ≤ 16 * 10 ^ 37 → unsigned_abs old ≤ 10 ^ 24 * 2 ^ 31
    → unsigned_abs new ≤ 10 ^ 24 * 2 ^ 31
    → FitsSigned w128 (to_z w128 (of_z w128 (to_z w128 (of_z w128 total) -ℤ to_z w128 (of_z w128 old))) +ℤ to_z w128 (of_z w128 new))
replaced_in_range total old new large small small' =
    let total_fits : FitsSigned w128 total = fits_signed_from_abs w128 total (omega arith) in
    let old_fits : FitsSigned w128 old = fits_signed_from_abs w128 old (omega arith) in
    let new_fits : FitsSigned w128 new = fits_signed_from_abs w128 new (omega arith) in
    let difference : FitsSigned w128 (total -ℤ old) = less_fits total old large small in
    let sum : FitsSigned w128 ((total -ℤ old) +ℤ new) = replaced_fits total old new large small small' in
    simp to_z-of_z sum

-- the coefficient of one of the terms is as small as each is
pub among_small : (terms : List Term) (t : Term) → ((k : ℕ) → k < length terms → unsigned_abs (term_at terms k).factor ≤ 10 ^ 24)
    → IsAmong t terms → unsigned_abs t.factor ≤ 10 ^ 24
among_small [] t small among = absurd among
among_small (u ∷ us) t small (inl same) = subst (λ (v : Term). unsigned_abs v.factor ≤ 10 ^ 24) (sym same) (small 0 (omega arith))
among_small (u ∷ us) t small (inr later) = among_small us t (λ k h. small (suc k) (omega arith)) later

-- a term of the changed column leaves its old end for its new one
pub with_term : (width : ℕ) (terms : List Term) (t : Term) (root area : List Interval) (j : ℕ) (side : Interval) (total result : ℤ)
    → IsLinear width terms → IsAmong t terms → t.column ≡ j → j < length root → length area ≡ length root
    → interval_at area j ≡ interval_at root j
    → result ≡ (total -ℤ (t.factor *ℤ end_of Least t.factor (interval_at root j))) +ℤ (t.factor *ℤ end_of Least t.factor side)
    → result +ℤ least_sum terms area ≡ total +ℤ least_sum terms (set area j side)
with_term width terms t root area j side total result linear among here there wide same moved =
    let there' : t.column < length area = subst (λ n. n < length area) (sym here) (subst (λ n. j < n) (sym wide) there) in
    let sums : least_sum terms (set area j side)
    ≡ (least_sum terms area -ℤ end_product Least t area) +ℤ (t.factor *ℤ end_of Least t.factor side) =
    subst (λ n. least_sum terms (set area n side) ≡ (least_sum terms area -ℤ end_product Least t area) +ℤ (t.factor *ℤ end_of Least t.factor side)) here
    (sum_with Least width terms t area side linear among
    ∙ ap (λ p. (least_sum terms area -ℤ end_product Least t area) +ℤ p) (product_new Least t area side there')) in
    let old : end_product Least t area ≡ t.factor *ℤ end_of Least t.factor (interval_at root j) =
    ap (λ s. t.factor *ℤ end_of Least t.factor s) (ap (λ n. interval_at area n) here ∙ same) in
    by_numbers result total (least_sum terms area) (least_sum terms (set area j side)) (end_product Least t area)
    (t.factor *ℤ end_of Least t.factor (interval_at root j)) (t.factor *ℤ end_of Least t.factor side) moved sums old
  where
    by_numbers : (r t s s' o o' n : ℤ) → r ≡ (t -ℤ o') +ℤ n → s' ≡ (s -ℤ o) +ℤ n → o ≡ o' → r +ℤ s ≡ t +ℤ s'
    by_numbers r t s s' o o' n e f g = omega (arith, ints)

-- if no term is of the changed column, the sum stays
pub without_term : (terms : List Term) (area : List Interval) (j : ℕ) (side : Interval) (total : ℤ)
    → ((k : ℕ) → k < length terms → (term_at terms k).column ≢ j)
    → total +ℤ least_sum terms area ≡ total +ℤ least_sum terms (set area j side)
without_term terms area j side total free = ap (λ s. total +ℤ s) (sym (sum_without Least terms area j side free))

-- no change of a rising list is of a later change's column
not_before : (changes : List Change) (i : ℕ) → IsRising changes → i < length changes → IsListed (take i changes) (change_at changes i).column → ⊥
not_before changes i rising h (k, there, e) =
    let size = length-take-le i changes (omega arith) in
    let lt : k < i = omega (arith, size, there) in
    let at = ap (λ (c : Change). c.column) (get_or-take i changes k no_change lt) in
    omega (arith, rising k i lt h, at, e)

-- one change more moves the total from the box of those before to the box with it
pub one_moved : (terms : List Term) (root : List Interval) (changes : List Change) (i : ℕ) (floor total result : ℤ)
    → IsRising changes → i < length changes
    → total +ℤ least_sum terms root ≡ floor +ℤ least_sum terms (area_by root (take i changes))
    → ((area : List Interval) → length area ≡ length root
    → interval_at area (change_at changes i).column ≡ interval_at root (change_at changes i).column
    → result +ℤ least_sum terms area ≡ total +ℤ least_sum terms (set area (change_at changes i).column (change_bounds (change_at changes i))))
    → result +ℤ least_sum terms root ≡ floor +ℤ least_sum terms (area_by root (take (i + 1) changes))
one_moved terms root changes i floor total result rising h before step =
    let area = area_by root (take i changes) in
    let now = step area (area_by_width root (take i changes)) (area_by_kept root (take i changes) (change_at changes i).column (not_before changes i rising h)) in
    let more : least_sum terms (area_by root (take (i + 1) changes))
    ≡ least_sum terms (set area (change_at changes i).column (change_bounds (change_at changes i))) =
    ap (λ a. least_sum terms a) (area_by_more root changes i h) in
    by_numbers result total floor (least_sum terms root) (least_sum terms area)
    (least_sum terms (set area (change_at changes i).column (change_bounds (change_at changes i)))) _ before now more
  where
    by_numbers : (r t f s a b b' : ℤ) → t +ℤ s ≡ f +ℤ a → r +ℤ a ≡ t +ℤ b → b' ≡ b → r +ℤ s ≡ f +ℤ b'
    by_numbers r t f s a b b' e g h = omega (arith, ints)

-- the columns rise, so the column of change k is at least k
column_at_least : (changes : List Change) (k : ℕ) → IsRising changes → k < length changes → k ≤ (change_at changes k).column
column_at_least changes zero rising h = omega arith
column_at_least changes (suc k) rising h =
    omega (arith, column_at_least changes k rising (omega arith), rising k (suc k) (omega arith) h)

-- so there are at most as many changes as columns
pub few_changes : (root : List Interval) (changes : List Change) → IsRising changes → AreChangesOf root changes → length changes ≤ length root
few_changes root changes rising valid = elim (cases_lt (length root) (length changes)) [
  | inr le ↦ le
  | inl lt ↦
      let last = valid (length changes - 1) (omega arith) in
      let at = column_at_least changes (length changes - 1) rising (omega arith) in
      absurd (omega (arith, at, last.differs.there))
]

-- terms whose columns rise are parted by each column
pub columns_parted : (terms : List Term) (column : ℕ) → DoColumnsRise terms → IsPartitionedBy (λ t. ltb t.column column) terms
columns_parted terms column rising i j d le lt h =
    let at_j : (term_at terms j).column < column = below _ (subst (λ (t : Term). ltb t.column column ≡ true) (get_or_default terms j d no_term lt) h) in
    subst (λ (t : Term). ltb t.column column ≡ true) (get_or_default terms i no_term d (omega arith)) (elim (cases_eq i j) [
      | inl same ↦ subst (λ k. ltb (term_at terms k).column column ≡ true) (sym same) (above _ at_j)
      | inr ne ↦ above _ (omega (arith, rising i j (omega (arith, ne)) lt, at_j))
    ])
  where
    below : (n : ℕ) → ltb n column ≡ true → n < column
    below n h = grind (arith, nat_tests)

    above : (n : ℕ) → n < column → ltb n column ≡ true
    above n h = grind (arith, nat_tests)

pub column_place : (terms : List Term) (column at : ℕ) → at ≤ length terms
    → IsPartitionPoint (λ (t : Term). ltb t.column column ≡ true) (λ (t : Term). ltb t.column column ≡ false) terms at → IsColumnPlace terms column at
column_place terms column at h parts = record {
  there = h;
  ahead = λ k lt. below _ (parts.0 k no_term (omega arith) lt);
  behind = λ k le lt. above _ (parts.1 k no_term le lt);
}
  where
    below : (n : ℕ) → ltb n column ≡ true → n < column
    below n h = grind (arith, nat_tests)

    above : (n : ℕ) → ltb n column ≡ false → column ≤ n
    above n h = grind (arith, nat_tests)
