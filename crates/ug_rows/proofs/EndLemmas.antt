-- The least and the greatest sum of terms over a box: they bound the sum at each point of it, and
-- are reached.
use Rattle.std.proofs.Common.{◌≡◌, ℕ, ◌+◌, ◌<◌, ◌+ℤ◌, List, [], ◌∷◌, ◌++◌, length, take, arith}
use Rattle.std.proofs.lemmas.Int.{ints}
use Rattle.std.proofs.lemmas.List.{take_more}
use Rattle.ug_rows.specs.declared.area.Interval.{Interval}
use Rattle.ug_rows.specs.declared.row.Term.{Term}
use Rattle.ug_rows.specs.declared.sums.Extreme.{Extreme}
use Rattle.ug_rows.specs.Rows.{no_term, term_at}
use Rattle.ug_rows.specs.Sums.{end_product, end_sum}

-- one term more
end_sum-push : (e : Extreme) (ts : List Term) (t : Term) (area : List Interval)
    → end_sum e (ts ++ t ∷ []) area ≡ end_sum e ts area +ℤ end_product e t area
end_sum-push e [] t area = omega (arith, ints)
end_sum-push e (u ∷ ts) t area = omega (arith, ints, end_sum-push e ts t area)

pub end_sum_more : (e : Extreme) (ts : List Term) (i : ℕ) (area : List Interval) → i < length ts
    → end_sum e (take (i + 1) ts) area ≡ end_sum e (take i ts) area +ℤ end_product e (term_at ts i) area
end_sum_more e ts i area h = rw (take_more ts i no_term h) (end_sum-push e (take i ts) (term_at ts i) area)
