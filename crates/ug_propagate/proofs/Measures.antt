-- One term more in the sums of a row and the widest span.
use Rattle.std.proofs.Common.{◌≡◌, subst, sym, ◌∙◌, ap, inl, inr, ℕ, ◌+◌, ◌<◌, ℤ, ◌+ℤ◌, ◌≤ℤ◌, List, length, take, arith}
use Rattle.std.proofs.lemmas.Bool.{cases_eq}
use Rattle.ug_rows.specs.declared.area.Interval.{Interval}
use Rattle.ug_rows.specs.declared.row.Term.{Term}
use Rattle.ug_rows.specs.declared.sums.Extreme.{Extreme}
use Rattle.ug_rows.specs.Boxes.{HasSmallEnds, interval_at}
use Rattle.ug_rows.specs.Rows.{term_at}
use Rattle.ug_rows.specs.Sums.{end_product, end_sum}
use Rattle.ug_rows.proofs.EndLemmas.{end_sum_more}
use Rattle.ug_rows.proofs.Orders.{at_most_trans}
use Rattle.ug_propagate.specs.Steps.{span_of}

pub sum_next : (e : Extreme) (ts : List Term) (i : ℕ) (area : List Interval) (sum next : ℤ) → i < length ts
    → sum ≡ end_sum e (take i ts) area → next ≡ sum +ℤ end_product e (term_at ts i) area
    → next ≡ end_sum e (take (i + 1) ts) area
sum_next e ts i area sum next h s n =
    n ∙ ap (λ (a : ℤ). a +ℤ end_product e (term_at ts i) area) s ∙ sym (end_sum_more e ts i area h)

pub widest_next : (ts : List Term) (i : ℕ) (area : List Interval) (widest next : ℤ)
    → ((k : ℕ) → k < i → span_of (term_at ts k) area ≤ℤ widest)
    → widest ≤ℤ next → span_of (term_at ts i) area ≤ℤ next
    → (k : ℕ) → k < i + 1 → span_of (term_at ts k) area ≤ℤ next
widest_next ts i area widest next before more here k lt = elim (cases_eq k i) [
  | inl e ↦ let P : ℕ → Type 0 = λ (j : ℕ). span_of (term_at ts j) area ≤ℤ next in subst P (sym e) here
  | inr ne ↦ at_most_trans (span_of (term_at ts k) area) widest next (before k (omega arith)) more
]

pub small_next : (ts : List Term) (i : ℕ) (area : List Interval)
    → ((k : ℕ) → k < i → HasSmallEnds (interval_at area (term_at ts k).column))
    → HasSmallEnds (interval_at area (term_at ts i).column)
    → (k : ℕ) → k < i + 1 → HasSmallEnds (interval_at area (term_at ts k).column)
small_next ts i area before here k lt = elim (cases_eq k i) [
  | inl e ↦ let P : ℕ → Type 0 = λ (j : ℕ). HasSmallEnds (interval_at area (term_at ts j).column) in subst P (sym e) here
  | inr ne ↦ before k (omega arith)
]
