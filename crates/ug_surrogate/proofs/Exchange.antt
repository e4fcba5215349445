-- The weighted sum, part by part and column by column, and its least over a box.
use Rattle.std.proofs.Common.{◌≡◌, ◌∙◌, refl, sym, ap, subst, inl, inr, ℕ, zero, suc, ◌+◌, ◌<◌, ◌≤◌, ℤ, pos, negsuc, ◌+ℤ◌, ◌-ℤ◌, ◌*ℤ◌, ◌≤ℤ◌, List, [], ◌∷◌, length, nat_lt, if◌then◌else◌, eq-eqb, ne_eqb, lt-ltb, le-ltb, arith}
use Rattle.std.proofs.lemmas.Int.{ints}
use Rattle.std.proofs.lemmas.Bool.{cases_order}
use lib.IntN.{zero-*ℤ, *ℤ-zero}
use Rattle.ug_rows.specs.declared.area.Interval.{Interval}
use Rattle.ug_rows.specs.declared.row.Term.{Term}
use Rattle.ug_rows.specs.declared.sums.Extreme.TheVariants.{Least}
use Rattle.ug_rows.specs.Boxes.{IsInside, IsNonEmpty, IsWithin, interval_at, value_at}
use Rattle.ug_rows.specs.Rows.{sum_at}
use Rattle.ug_rows.specs.Sums.{end_of}
use Rattle.ug_rows.proofs.EndBounds.{AreThere, mul_neg, mul_pos, there_from_index}
use Rattle.ug_problem.specs.Instances.{Instance, row_at}
use Rattle.ug_problem.specs.Limits.{IsProblem}
use Rattle.ug_problem.proofs.Linear.{linear_objective, linear_row}
use Rattle.ug_surrogate.specs.declared.multipliers.Side.{Side}
use Rattle.ug_surrogate.specs.declared.multipliers.Side.TheVariants.{Low, High}
use Rattle.ug_surrogate.specs.declared.multipliers.Multiplier.{Multiplier}
use Rattle.ug_surrogate.specs.declared.multipliers.Multipliers.{Multipliers}
use Rattle.ug_surrogate.specs.Columns.{WeightedTerms, constant_of, factor_at, factor_in, factor_of, least_below, least_product, least_to, parts_of, parts_under, sides_under, signed_for}
use Rattle.ug_surrogate.specs.Weights.{AreMultipliers, HasSide, IsLeastWeighted, excess_over, excesses_at, multiplier_at, side_under, weighted_at}
use Rattle.ug_surrogate.proofs.Ring.{add_mul, mul_add, mul_assoc, mul_less, neg_mul}

-- a term at x, where its column is below n
abbrev pub term_below : ℕ → Term → List ℤ → ℤ
term_below n t x = if nat_lt t.column n then t.factor *ℤ value_at x t.column else pos 0

abbrev pub sum_below : ℕ → List Term → List ℤ → ℤ
sum_below n [] x = pos 0
sum_below n (t ∷ ts) x = term_below n t x +ℤ sum_below n ts x

one_more : (n : ℕ) (t : Term) (x : List ℤ) → term_below (suc n) t x ≡ term_below n t x +ℤ (factor_at n t *ℤ value_at x n)
one_more n t x = elim (cases_order t.column n) [
  | inl same ↦ rw (lt-ltb t.column (suc n) (omega (arith, same)), le-ltb t.column n (omega (arith, same)), eq-eqb t.column n same)
      (ap (λ (c : ℕ). t.factor *ℤ value_at x c) same ∙ omega (arith, ints))
  | inr (inl less) ↦ rw (lt-ltb t.column (suc n) (omega arith), lt-ltb t.column n less, ne_eqb t.column n (λ e. omega (arith, e, less)))
      (omega (arith, ints, zero-*ℤ (value_at x n)))
  | inr (inr more) ↦ rw (le-ltb t.column (suc n) (omega arith), le-ltb t.column n (omega arith), ne_eqb t.column n (λ e. omega (arith, e, more)))
      (omega (arith, ints, zero-*ℤ (value_at x n)))
]

sum_more : (n : ℕ) (ts : List Term) (x : List ℤ) → sum_below (suc n) ts x ≡ sum_below n ts x +ℤ (factor_in n ts *ℤ value_at x n)
sum_more n [] x = omega (arith, ints, zero-*ℤ (value_at x n))
sum_more n (t ∷ ts) x =
    omega (arith, ints, one_more n t x, sum_more n ts x, add_mul (factor_at n t) (factor_in n ts) (value_at x n))

sum_none : (ts : List Term) (x : List ℤ) → sum_below 0 ts x ≡ pos 0
sum_none [] x = refl
sum_none (t ∷ ts) x = rw (le-ltb t.column 0 (omega arith)) (omega (arith, ints, sum_none ts x))

sum_whole : (n : ℕ) (ts : List Term) (x : List ℤ) → AreThere n ts → sum_below n ts x ≡ sum_at ts x
sum_whole n [] x there = refl
sum_whole n (t ∷ ts) x there = rw (lt-ltb t.column n there.0) (omega (arith, ints, sum_whole n ts x there.1))

-- the parts at x
abbrev pub parts_at : List WeightedTerms → List ℤ → ℤ
parts_at [] x = pos 0
parts_at (part ∷ parts) x = (part.weight *ℤ sum_at part.terms x) +ℤ parts_at parts x

abbrev pub parts_below : ℕ → List WeightedTerms → List ℤ → ℤ
parts_below n [] x = pos 0
parts_below n (part ∷ parts) x = (part.weight *ℤ sum_below n part.terms x) +ℤ parts_below n parts x

part_more : (w a b f v : ℤ) → a ≡ b +ℤ (f *ℤ v) → w *ℤ a ≡ (w *ℤ b) +ℤ ((w *ℤ f) *ℤ v)
part_more w a b f v e = ap (λ (z : ℤ). w *ℤ z) e ∙ mul_add w b (f *ℤ v) ∙ ap (λ (z : ℤ). (w *ℤ b) +ℤ z) (mul_assoc w f v)

pub parts_more : (n : ℕ) (parts : List WeightedTerms) (x : List ℤ)
    → parts_below (suc n) parts x ≡ parts_below n parts x +ℤ (factor_of n parts *ℤ value_at x n)
parts_more n [] x = omega (arith, ints, zero-*ℤ (value_at x n))
parts_more n (part ∷ parts) x =
    omega (
      arith,
      ints,
      part_more part.weight _ _ (factor_in n part.terms) (value_at x n) (sum_more n part.terms x),
      parts_more n parts x,
      add_mul (part.weight *ℤ factor_in n part.terms) (factor_of n parts) (value_at x n),
    )

pub parts_none : (parts : List WeightedTerms) (x : List ℤ) → parts_below 0 parts x ≡ pos 0
parts_none [] x = refl
parts_none (part ∷ parts) x =
    omega (arith, ints, ap (λ (z : ℤ). part.weight *ℤ z) (sum_none part.terms x), *ℤ-zero part.weight, parts_none parts x)

-- each part's terms are of columns that are there
abbrev pub ArePartsThere : ℕ → List WeightedTerms → Type 0
ArePartsThere n [] = Unit {0}
ArePartsThere n (part ∷ parts) = AreThere n part.terms × ArePartsThere n parts

pub parts_whole : (n : ℕ) (parts : List WeightedTerms) (x : List ℤ) → ArePartsThere n parts → parts_below n parts x ≡ parts_at parts x
parts_whole n [] x there = refl
parts_whole n (part ∷ parts) x there =
    omega (arith, ints, ap (λ (z : ℤ). part.weight *ℤ z) (sum_whole n part.terms x there.0), parts_whole n parts x there.1)

-- the least product is at most each product
product_least : (f : ℤ) (side : Interval) (v : ℤ) → side.low ≤ℤ v → v ≤ℤ side.high → least_product f side ≤ℤ (f *ℤ v)
product_least (pos n) side v low high = mul_pos n side.low v low
product_least (negsuc n) side v low high = mul_neg n v side.high high

least_at_most : (n : ℕ) (parts : List WeightedTerms) (area : List Interval) (x : List ℤ) → n ≤ length area → IsInside area x
    → least_below n parts area ≤ℤ parts_below n parts x
least_at_most zero parts area x h inside = omega (arith, ints, parts_none parts x)
least_at_most (suc n) parts area x h inside =
    let here = inside.each n (omega arith) in
    omega (
      arith,
      ints,
      least_at_most n parts area x (omega arith) inside,
      parts_more n parts x,
      product_least (factor_of n parts) (interval_at area n) (value_at x n) here.low here.high,
    )

pub least_next : (p : Instance) (m : Multipliers) (area : List Interval) (n : ℕ) (total : ℤ) → total ≡ least_to n p m area
    → total +ℤ least_product (factor_of n (parts_of p m)) (interval_at area n) ≡ least_to (n + 1) p m area
least_next p m area n total e =
    let f : n + 1 ≡ suc n = omega arith in
    let g = ap (λ (k : ℕ). least_below k (parts_of p m) area) f in
    omega (arith, ints, e, g)

-- the point of the ends at which each product is least
abbrev pub ends_from : ℕ → List WeightedTerms → List Interval → List ℤ
ends_from j parts [] = []
ends_from j parts (side ∷ sides) = end_of Least (factor_of j parts) side ∷ ends_from (suc j) parts sides

ends_length : (j : ℕ) (parts : List WeightedTerms) (sides : List Interval) → length (ends_from j parts sides) ≡ length sides
ends_length j parts [] = refl
ends_length j parts (side ∷ sides) = ap suc (ends_length (suc j) parts sides)

ends_at : (j k n : ℕ) (parts : List WeightedTerms) (sides : List Interval) → k < length sides → n ≡ j + k
    → value_at (ends_from j parts sides) k ≡ end_of Least (factor_of n parts) (interval_at sides k)
ends_at j k n parts [] h e = absurd (omega arith)
ends_at j zero n parts (side ∷ sides) h e = ap (λ (i : ℕ). end_of Least (factor_of i parts) side) (omega (arith, e))
ends_at j (suc k) n parts (side ∷ sides) h e = ends_at (suc j) k n parts sides (omega arith) (omega (arith, e))

end_within : (f : ℤ) (side : Interval) → side.low ≤ℤ side.high → IsWithin side (end_of Least f side)
end_within (pos n) side h = record { low = omega (arith, ints); high = h }
end_within (negsuc n) side h = record { low = h; high = omega (arith, ints) }

ends_inside : (parts : List WeightedTerms) (area : List Interval) → IsNonEmpty area → IsInside area (ends_from 0 parts area)
ends_inside parts area some = record {
  width = ends_length 0 parts area;
  each = λ j there. rw (ends_at 0 j j parts area there (omega arith))
      (end_within (factor_of j parts) (interval_at area j) (some j there));
}

least_reached : (n : ℕ) (parts : List WeightedTerms) (area : List Interval) → n ≤ length area
    → parts_below n parts (ends_from 0 parts area) ≡ least_below n parts area
least_reached zero parts area h = parts_none parts (ends_from 0 parts area)
least_reached (suc n) parts area h =
    let e = ap (λ (z : ℤ). factor_of n parts *ℤ z) (ends_at 0 n n parts area (omega arith) (omega arith)) in
    omega (arith, ints, parts_more n parts (ends_from 0 parts area), least_reached n parts area (omega arith), e)

-- an excess, times its weight, is a part less a weighted side
excess_split : (s : Side) (w : ℕ) (side sum : ℤ)
    → pos w *ℤ excess_over s side sum ≡ (signed_for s w *ℤ sum) -ℤ (signed_for s w *ℤ side)
excess_split Low w side sum = omega (arith, ints, mul_less (pos w) side sum, neg_mul (pos w) side, neg_mul (pos w) sum)
excess_split High w side sum = mul_less (pos w) sum side

excesses_split : (p : Instance) (us : List Multiplier) (x : List ℤ)
    → excesses_at p us x ≡ parts_at (parts_under p us) x -ℤ sides_under p us
excesses_split p [] x = refl
excesses_split p (u ∷ us) x =
    omega (arith, ints, excess_split u.side u.weight (side_under p u) (sum_at (row_at p u.row).terms x), excesses_split p us x)

pub weighted_split : (p : Instance) (m : Multipliers) (x : List ℤ)
    → weighted_at p m x ≡ constant_of p m +ℤ parts_at (parts_of p m) x
weighted_split p m x =
    omega (arith, ints, excesses_split p m.list x, mul_add (pos m.d) (sum_at p.objective.terms x) p.objective.constant)

rows_there : (p : Instance) (us : List Multiplier) → IsProblem p → ((k : ℕ) → k < length us → HasSide p (multiplier_at us k))
    → ArePartsThere (length p.columns) (parts_under p us)
rows_there p [] problem sides = tt
rows_there p (u ∷ us) problem sides = (
  there_from_index _ (row_at p u.row).terms (linear_row p u.row problem (sides 0 (omega arith)).there).within,
  rows_there p us problem (λ k lt. sides (suc k) (omega arith)),
)

pub parts_there : (p : Instance) (m : Multipliers) → IsProblem p → AreMultipliers p m → ArePartsThere (length p.columns) (parts_of p m)
parts_there p m problem are = (
  there_from_index _ p.objective.terms (linear_objective p problem).within,
  rows_there p m.list problem are.sides,
)

at_whole : (p : Instance) (m : Multipliers) (n : ℕ) (x : List ℤ) → IsProblem p → AreMultipliers p m → n ≡ length p.columns
    → parts_below n (parts_of p m) x ≡ parts_at (parts_of p m) x
at_whole p m n x problem are wide =
    parts_whole n (parts_of p m) x (subst (λ (k : ℕ). ArePartsThere k (parts_of p m)) (sym wide) (parts_there p m problem are))

-- the sum column by column is the least weighted sum
pub least_weighted : (p : Instance) (area : List Interval) (m : Multipliers) (f : ℤ) → IsProblem p → AreMultipliers p m
    → length area ≡ length p.columns → IsNonEmpty area
    → f ≡ constant_of p m +ℤ least_below (length area) (parts_of p m) area → IsLeastWeighted p area m f
least_weighted p area m f problem are wide some e =
    let parts = parts_of p m in
    let x : List ℤ = ends_from 0 parts area in
    record {
      bound = λ y inside. omega (
        arith,
        ints,
        e,
        least_at_most (length area) parts area y (omega arith) inside,
        at_whole p m (length area) y problem are wide,
        weighted_split p m y,
      );
      reached = (
        x,
        ends_inside parts area some,
        omega (arith, ints, e, weighted_split p m x, at_whole p m (length area) x problem are wide, least_reached (length area) parts area (omega arith)),
      );
    }
