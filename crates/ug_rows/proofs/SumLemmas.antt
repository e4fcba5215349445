-- Sums of terms at a point, and how many terms there can be.
use Rattle.std.proofs.Common.{◌≡◌, ℕ, zero, suc, ◌+◌, ◌<◌, ◌≤◌, ◌^◌, ℤ, ◌+ℤ◌, ◌*ℤ◌, List, [], ◌∷◌, ◌++◌, length, take, arith}
use Rattle.std.proofs.lemmas.Int.{ints}
use Rattle.std.proofs.lemmas.List.{take_more}
use Rattle.ug_rows.specs.declared.row.Term.{Term}
use Rattle.ug_rows.specs.Boxes.{value_at}
use Rattle.ug_rows.specs.Rows.{IsLinear, no_term, term_at, sum_at}

-- one term more
sum_at-push : (ts : List Term) (t : Term) (x : List ℤ) → sum_at (ts ++ t ∷ []) x ≡ sum_at ts x +ℤ (t.factor *ℤ value_at x t.column)
sum_at-push [] t x = omega (arith, ints)
sum_at-push (u ∷ ts) t x = omega (arith, ints, sum_at-push ts t x)

pub sum_at_more : (ts : List Term) (i : ℕ) (x : List ℤ) → i < length ts
    → sum_at (take (i + 1) ts) x ≡ sum_at (take i ts) x +ℤ ((term_at ts i).factor *ℤ value_at x (term_at ts i).column)
sum_at_more ts i x h = rw (take_more ts i no_term h) (sum_at-push (take i ts) (term_at ts i) x)

-- the columns rise, so the column of term k is at least k
pub column_at_least : (width : ℕ) (ts : List Term) → IsLinear width ts → (k : ℕ) → k < length ts → k ≤ (term_at ts k).column
column_at_least width ts linear zero h = omega arith
column_at_least width ts linear (suc k) h =
    omega (arith, column_at_least width ts linear k (omega arith), linear.rising k (suc k) (omega arith) h)

-- so there are at most as many terms as columns
pub length_at_most : (width : ℕ) (ts : List Term) → IsLinear width ts → length ts ≤ width
length_at_most width [] linear = omega arith
length_at_most width (t ∷ ts) linear =
    omega (arith, column_at_least width (t ∷ ts) linear (length ts) (omega arith), linear.within (length ts) (omega arith))

-- and at most 10,000
pub few_terms : (width : ℕ) (ts : List Term) → IsLinear width ts → length ts ≤ 10 ^ 4
few_terms width ts linear = omega (arith, length_at_most width ts linear, linear.few)
