-- How large the weighted sum and its parts become over a box.
use Rattle.std.proofs.Common.{◌≡◌, ◌∙◌, refl, sym, ap, inl, inr, ℕ, zero, suc, ◌+◌, ◌*◌, ◌^◌, ◌<◌, ◌≤◌, ℤ, pos, negsuc, ◌+ℤ◌, ◌-ℤ◌, ◌*ℤ◌, neg_ℤ, List, [], ◌∷◌, ◌++◌, length, take, subst, unsigned_abs, nat_lt, if◌then◌else◌, eq-eqb, ne_eqb, lt-ltb, le-ltb, arith}
use Rattle.std.proofs.Math.Nat.{mul-le-mul, mul-add, add-mul, mul_assoc}
use Rattle.std.proofs.lemmas.Int.{ints, unsigned_abs-mul}
use Rattle.std.proofs.lemmas.Bool.{cases_order, cases_lt}
use Rattle.std.proofs.lemmas.List.{take_all, take_more}
use Rattle.ug_rows.specs.declared.area.Interval.{Interval}
use Rattle.ug_rows.specs.declared.row.Term.{Term}
use Rattle.ug_rows.specs.declared.sums.Extreme.TheVariants.{Least}
use Rattle.ug_rows.specs.Boxes.{interval_at}
use Rattle.ug_rows.specs.Rows.{no_term, term_at}
use Rattle.ug_rows.specs.Sums.{end_of}
use Rattle.ug_rows.proofs.Products.{abs_add}
use Rattle.ug_problem.specs.Instances.{Instance, row_at}
use Rattle.ug_surrogate.specs.declared.multipliers.Side.{Side}
use Rattle.ug_surrogate.specs.declared.multipliers.Side.TheVariants.{Low, High}
use Rattle.ug_surrogate.specs.declared.multipliers.Multiplier.{Multiplier}
use Rattle.ug_surrogate.specs.declared.multipliers.Multipliers.{Multipliers}
use Rattle.ug_surrogate.specs.Columns.{IsSomewhereSmall, WeightedTerms, weighted_side, weighted_side_size, constant_of, factor_at, factor_in, factor_of, least_below, least_product, parts_of, parts_under, sides_under, signed_for, signed_weight}
use Rattle.ug_surrogate.specs.Magnitudes.{IsSmall, magnitude, magnitudes, reach_of, row_magnitude, size_to}
use Rattle.ug_surrogate.specs.Weights.{multiplier_at, no_multiplier, side_under}

-- the magnitude of a term, where its column is below n
abbrev pub term_reach : ℕ → Term → List Interval → ℕ
term_reach n t area = if nat_lt t.column n then unsigned_abs t.factor * reach_of (interval_at area t.column) else 0

abbrev pub reach_below : ℕ → List Term → List Interval → ℕ
reach_below n [] area = 0
reach_below n (t ∷ ts) area = term_reach n t area + reach_below n ts area

term_more : (n : ℕ) (t : Term) (area : List Interval)
    → unsigned_abs (factor_at n t) * reach_of (interval_at area n) + term_reach n t area ≤ term_reach (suc n) t area
term_more n t area = elim (cases_order t.column n) [
  | inl same ↦ rw (lt-ltb t.column (suc n) (omega (arith, same)), le-ltb t.column n (omega (arith, same)), eq-eqb t.column n same)
      (let e = ap (λ (c : ℕ). unsigned_abs t.factor * reach_of (interval_at area c)) same in omega (arith, e))
  | inr (inl less) ↦ rw (lt-ltb t.column (suc n) (omega arith), lt-ltb t.column n less, ne_eqb t.column n (λ e. omega (arith, e, less)))
      (omega arith)
  | inr (inr more) ↦ rw (le-ltb t.column (suc n) (omega arith), le-ltb t.column n (omega arith), ne_eqb t.column n (λ e. omega (arith, e, more)))
      (omega arith)
]

-- the size of a sum, times a reach, is at most those of its parts
sum_reach : (a b : ℤ) (r : ℕ) → unsigned_abs (a +ℤ b) * r ≤ unsigned_abs a * r + unsigned_abs b * r
sum_reach a b r =
    let h : unsigned_abs (a +ℤ b) * r ≤ (unsigned_abs a + unsigned_abs b) * r = mul-le-mul (abs_add a b) (omega arith) in
    omega (arith, h, add-mul (unsigned_abs a) (unsigned_abs b) r)

terms_more : (n : ℕ) (ts : List Term) (area : List Interval)
    → unsigned_abs (factor_in n ts) * reach_of (interval_at area n) + reach_below n ts area ≤ reach_below (suc n) ts area
terms_more n [] area = omega arith
terms_more n (t ∷ ts) area =
    omega (arith, term_more n t area, terms_more n ts area, sum_reach (factor_at n t) (factor_in n ts) (reach_of (interval_at area n)))

term_whole : (n : ℕ) (t : Term) (area : List Interval) → term_reach n t area ≤ unsigned_abs t.factor * reach_of (interval_at area t.column)
term_whole n t area = elim (cases_lt t.column n) [
  | inl less ↦ rw (lt-ltb t.column n less) (omega arith)
  | inr more ↦ rw (le-ltb t.column n more) (omega arith)
]

terms_whole : (n : ℕ) (ts : List Term) (area : List Interval) → reach_below n ts area ≤ magnitude ts area
terms_whole n [] area = omega arith
terms_whole n (t ∷ ts) area = omega (arith, term_whole n t area, terms_whole n ts area)

-- the magnitudes of the parts, each times its weight's absolute value
abbrev pub parts_reach : ℕ → List WeightedTerms → List Interval → ℕ
parts_reach n [] area = 0
parts_reach n (part ∷ parts) area = unsigned_abs part.weight * reach_below n part.terms area + parts_reach n parts area

abbrev pub parts_size : List WeightedTerms → List Interval → ℕ
parts_size [] area = 0
parts_size (part ∷ parts) area = unsigned_abs part.weight * magnitude part.terms area + parts_size parts area

part_more : (w f : ℤ) (r s s' : ℕ) → unsigned_abs f * r + s ≤ s'
    → unsigned_abs (w *ℤ f) * r + unsigned_abs w * s ≤ unsigned_abs w * s'
part_more w f r s s' h =
    let k : unsigned_abs w * (unsigned_abs f * r + s) ≤ unsigned_abs w * s' = mul-le-mul (omega arith) h in
    let e : unsigned_abs (w *ℤ f) * r ≡ unsigned_abs w * (unsigned_abs f * r) =
    ap (λ (z : ℕ). z * r) (unsigned_abs-mul w f) ∙ mul_assoc (unsigned_abs w) (unsigned_abs f) r in
    omega (arith, k, e, mul-add (unsigned_abs w) (unsigned_abs f * r) s)

parts_more : (n : ℕ) (parts : List WeightedTerms) (area : List Interval)
    → unsigned_abs (factor_of n parts) * reach_of (interval_at area n) + parts_reach n parts area ≤ parts_reach (suc n) parts area
parts_more n [] area = omega arith
parts_more n (part ∷ parts) area =
    omega (
      arith,
      parts_more n parts area,
      part_more part.weight (factor_in n part.terms) (reach_of (interval_at area n)) _ _ (terms_more n part.terms area),
      sum_reach (part.weight *ℤ factor_in n part.terms) (factor_of n parts) (reach_of (interval_at area n)),
    )

parts_whole : (n : ℕ) (parts : List WeightedTerms) (area : List Interval) → parts_reach n parts area ≤ parts_size parts area
parts_whole n [] area = omega arith
parts_whole n (part ∷ parts) area =
    let h : unsigned_abs part.weight * reach_below n part.terms area ≤ unsigned_abs part.weight * magnitude part.terms area =
    mul-le-mul (omega arith) (terms_whole n part.terms area) in
    omega (arith, h, parts_whole n parts area)

-- an end of an interval is at most its reach
end_reach : (f : ℤ) (side : Interval) → unsigned_abs (end_of Least f side) ≤ reach_of side
end_reach (pos n) side = omega arith
end_reach (negsuc n) side = omega arith

product_reach : (f : ℤ) (side : Interval) → unsigned_abs (least_product f side) ≤ unsigned_abs f * reach_of side
product_reach f side =
    let h : unsigned_abs f * unsigned_abs (end_of Least f side) ≤ unsigned_abs f * reach_of side = mul-le-mul (omega arith) (end_reach f side) in
    omega (arith, h, unsigned_abs-mul f (end_of Least f side))

least_reach : (n : ℕ) (parts : List WeightedTerms) (area : List Interval) → unsigned_abs (least_below n parts area) ≤ parts_reach n parts area
least_reach zero parts area = omega arith
least_reach (suc n) parts area =
    omega (
      arith,
      least_reach n parts area,
      parts_more n parts area,
      product_reach (factor_of n parts) (interval_at area n),
      abs_add (least_below n parts area) (least_product (factor_of n parts) (interval_at area n)),
    )

abs_signed : (s : Side) (w : ℕ) → unsigned_abs (signed_for s w) ≡ w
abs_signed Low zero = refl
abs_signed Low (suc w) = refl
abs_signed High w = refl

-- the sizes of the weighted sides
abbrev pub sides_size : Instance → List Multiplier → ℕ
sides_size p [] = 0
sides_size p (u ∷ us) = u.weight * unsigned_abs (side_under p u) + sides_size p us

-- a weighted magnitude is that of the terms and that of the side
magnitudes_split : (p : Instance) (us : List Multiplier) (area : List Interval)
    → magnitudes p us area ≡ parts_size (parts_under p us) area + sides_size p us
magnitudes_split p [] area = refl
magnitudes_split p (u ∷ us) area =
    let e : unsigned_abs (signed_weight u) * magnitude (row_at p u.row).terms area ≡ u.weight * magnitude (row_at p u.row).terms area =
    ap (λ (z : ℕ). z * magnitude (row_at p u.row).terms area) (abs_signed u.side u.weight) in
    omega (arith, e, magnitudes_split p us area, mul-add u.weight (magnitude (row_at p u.row).terms area) (unsigned_abs (side_under p u)))

pub size_split : (p : Instance) (m : Multipliers) (area : List Interval)
    → size_to p m area (length m.list)
    ≡ (parts_size (parts_of p m) area + m.d * unsigned_abs p.objective.constant) + sides_size p m.list
size_split p m area =
    let e : magnitudes p (take (length m.list) m.list) area ≡ magnitudes p m.list area =
    ap (λ (us : List Multiplier). magnitudes p us area) (take_all (length m.list) m.list (omega arith)) in
    omega (arith, e, magnitudes_split p m.list area, mul-add m.d (magnitude p.objective.terms area) (unsigned_abs p.objective.constant))

abs_neg : (a : ℤ) → unsigned_abs (neg_ℤ a) ≡ unsigned_abs a
abs_neg (pos zero) = refl
abs_neg (pos (suc n)) = refl
abs_neg (negsuc n) = refl

sides_small : (p : Instance) (us : List Multiplier) → unsigned_abs (sides_under p us) ≤ sides_size p us
sides_small p [] = omega arith
sides_small p (u ∷ us) =
    let e : unsigned_abs (signed_weight u *ℤ side_under p u) ≡ u.weight * unsigned_abs (side_under p u) =
    unsigned_abs-mul (signed_weight u) (side_under p u) ∙ ap (λ (z : ℕ). z * unsigned_abs (side_under p u)) (abs_signed u.side u.weight) in
    omega (arith, e, sides_small p us, abs_add (signed_weight u *ℤ side_under p u) (sides_under p us))

pub constant_small : (p : Instance) (m : Multipliers)
    → unsigned_abs (constant_of p m) ≤ m.d * unsigned_abs p.objective.constant + sides_size p m.list
constant_small p m =
    let a : ℤ = pos m.d *ℤ p.objective.constant in
    let s : ℤ = sides_under p m.list in
    let e : unsigned_abs (a -ℤ s) ≤ unsigned_abs a + unsigned_abs (neg_ℤ s) = abs_add a (neg_ℤ s) in
    omega (arith, e, abs_neg s, sides_small p m.list, unsigned_abs-mul (pos m.d) p.objective.constant)

-- what a small sum allows: the total over the first n columns, and the next product
pub total_small : (p : Instance) (m : Multipliers) (area : List Interval) (n : ℕ) → IsSmall p m area
    → unsigned_abs (constant_of p m +ℤ least_below n (parts_of p m) area) ≤ 10 ^ 38
total_small p m area n small =
    omega (
      arith,
      small,
      size_split p m area,
      constant_small p m,
      least_reach n (parts_of p m) area,
      parts_whole n (parts_of p m) area,
      abs_add (constant_of p m) (least_below n (parts_of p m) area),
    )

pub sum_small : (p : Instance) (m : Multipliers) (area : List Interval) (n : ℕ) (total : ℤ) → IsSmall p m area
    → total ≡ constant_of p m +ℤ least_below n (parts_of p m) area
    → unsigned_abs (total +ℤ least_product (factor_of n (parts_of p m)) (interval_at area n)) ≤ 10 ^ 38
sum_small p m area n total small e =
    let f : total +ℤ least_product (factor_of n (parts_of p m)) (interval_at area n)
    ≡ constant_of p m +ℤ least_below (suc n) (parts_of p m) area = omega (arith, ints, e) in
    omega (arith, ap unsigned_abs f, total_small p m area (suc n) small)

pub next_small : (p : Instance) (m : Multipliers) (area : List Interval) (n : ℕ) → IsSmall p m area
    → unsigned_abs (least_product (factor_of n (parts_of p m)) (interval_at area n)) ≤ 10 ^ 38
next_small p m area n small =
    omega (
      arith,
      small,
      size_split p m area,
      parts_more n (parts_of p m) area,
      parts_whole (suc n) (parts_of p m) area,
      product_reach (factor_of n (parts_of p m)) (interval_at area n),
    )

-- one term, one multiplier, one column more
magnitude_push : (ts : List Term) (t : Term) (area : List Interval)
    → magnitude (ts ++ t ∷ []) area ≡ magnitude ts area + unsigned_abs t.factor * reach_of (interval_at area t.column)
magnitude_push [] t area = omega arith
magnitude_push (u ∷ ts) t area = omega (arith, magnitude_push ts t area)

pub magnitude_more : (ts : List Term) (i : ℕ) (area : List Interval) → i < length ts
    → magnitude (take (i + 1) ts) area
    ≡ magnitude (take i ts) area + unsigned_abs (term_at ts i).factor * reach_of (interval_at area (term_at ts i).column)
magnitude_more ts i area h = rw (take_more ts i no_term h) (magnitude_push (take i ts) (term_at ts i) area)

magnitudes_push : (p : Instance) (us : List Multiplier) (u : Multiplier) (area : List Interval)
    → magnitudes p (us ++ u ∷ []) area ≡ magnitudes p us area + u.weight * row_magnitude p u area
magnitudes_push p [] u area = omega arith
magnitudes_push p (v ∷ us) u area = omega (arith, magnitudes_push p us u area)

pub size_more : (p : Instance) (m : Multipliers) (area : List Interval) (i : ℕ) → i < length m.list
    → size_to p m area (i + 1) ≡ size_to p m area i + (multiplier_at m.list i).weight * row_magnitude p (multiplier_at m.list i) area
size_more p m area i h =
    rw (take_more m.list i no_multiplier h)
    (omega (arith, magnitudes_push p (take i m.list) (multiplier_at m.list i) area))

sides_push : (p : Instance) (us : List Multiplier) (u : Multiplier)
    → sides_under p (us ++ u ∷ []) ≡ sides_under p us +ℤ (signed_weight u *ℤ side_under p u)
sides_push p [] u = omega (arith, ints)
sides_push p (v ∷ us) u = omega (arith, ints, sides_push p us u)

pub sides_more : (p : Instance) (us : List Multiplier) (i : ℕ) → i < length us
    → sides_under p (take (i + 1) us) ≡ sides_under p (take i us) +ℤ (signed_weight (multiplier_at us i) *ℤ side_under p (multiplier_at us i))
sides_more p us i h = rw (take_more us i no_multiplier h) (sides_push p (take i us) (multiplier_at us i))

-- the constant with the first n weighted sides alone
abbrev pub constant_to : Instance → Multipliers → ℕ → ℤ
constant_to p m n = (pos m.d *ℤ p.objective.constant) -ℤ sides_under p (take n m.list)

-- the sizes of the first n weighted sides
abbrev pub sides_to : Instance → List Multiplier → ℕ → ℕ
sides_to p [] n = 0
sides_to p (u ∷ us) zero = 0
sides_to p (u ∷ us) (suc n) = u.weight * unsigned_abs (side_under p u) + sides_to p us n

sides_to_more : (p : Instance) (us : List Multiplier) (i next : ℕ) → next ≡ suc i → i < length us
    → sides_to p us next ≡ sides_to p us i + (multiplier_at us i).weight * unsigned_abs (side_under p (multiplier_at us i))
sides_to_more p [] i next e h = absurd (omega arith)
sides_to_more p (u ∷ us) zero next e h =
    subst (λ (n : ℕ). sides_to p (u ∷ us) n ≡ 0 + u.weight * unsigned_abs (side_under p u)) (sym e) (sides_first us)
  where
    sides_first : (vs : List Multiplier) → u.weight * unsigned_abs (side_under p u) + sides_to p vs 0 ≡ 0 + u.weight * unsigned_abs (side_under p u)
    sides_first [] = omega arith
    sides_first (v ∷ vs) = omega arith
sides_to_more p (u ∷ us) (suc i) next e h =
    subst (λ (n : ℕ). sides_to p (u ∷ us) n ≡ sides_to p (u ∷ us) (suc i) + (multiplier_at us i).weight * unsigned_abs (side_under p (multiplier_at us i))) (sym e)
    (omega (arith, sides_to_more p us i (suc i) refl (omega arith)))

sides_to_most : (p : Instance) (us : List Multiplier) (n : ℕ) → sides_to p us n ≤ sides_size p us
sides_to_most p [] n = omega arith
sides_to_most p (u ∷ us) zero = omega arith
sides_to_most p (u ∷ us) (suc n) = omega (arith, sides_to_most p us n)

pub signed_size : (p : Instance) (u : Multiplier) → unsigned_abs (signed_weight u) * unsigned_abs (side_under p u) ≡ weighted_side_size p u
signed_size p u = ap (λ (z : ℕ). z * unsigned_abs (side_under p u)) (abs_signed u.side u.weight)

pub objective_fits : (p : Instance) (m : Multipliers) → IsSomewhereSmall p m → m.d * unsigned_abs p.objective.constant ≤ 10 ^ 38
objective_fits p m h = omega (arith, h.small, size_split p m h.area)

pub side_fits : (p : Instance) (m : Multipliers) (i : ℕ) → IsSomewhereSmall p m → i < length m.list
    → m.d * unsigned_abs p.objective.constant + sides_to p m.list i + weighted_side_size p (multiplier_at m.list i) ≤ 10 ^ 38
side_fits p m i h there =
    omega (arith, h.small, size_split p m h.area, sides_to_more p m.list i (suc i) refl there, sides_to_most p m.list (suc i))

pub next_side : (p : Instance) (m : Multipliers) (i : ℕ) → i < length m.list
    → constant_to p m (i + 1) ≡ constant_to p m i -ℤ weighted_side p (multiplier_at m.list i)
next_side p m i there = omega (arith, ints, sides_more p m.list i there)

pub next_size : (p : Instance) (us : List Multiplier) (i : ℕ) → i < length us
    → sides_to p us (i + 1) ≡ sides_to p us i + weighted_side_size p (multiplier_at us i)
next_size p us i there = omega (arith, sides_to_more p us i (i + 1) (omega arith) there)

pub first_side : (p : Instance) (m : Multipliers) → constant_to p m 0 ≡ pos m.d *ℤ p.objective.constant
first_side p m = omega (arith, ints)

pub first_size : (p : Instance) (m : Multipliers) → unsigned_abs (pos m.d *ℤ p.objective.constant) ≡ m.d * unsigned_abs p.objective.constant
first_size p m = unsigned_abs-mul (pos m.d) p.objective.constant

pub last_side : (p : Instance) (m : Multipliers) (i : ℕ) → i ≡ length m.list → constant_to p m i ≡ constant_of p m
last_side p m i e =
    ap (λ (us : List Multiplier). (pos m.d *ℤ p.objective.constant) -ℤ sides_under p us) (take_all i m.list (omega (arith, e)))

pub constant_within : (p : Instance) (m : Multipliers) → IsSomewhereSmall p m → unsigned_abs (constant_of p m) ≤ 10 ^ 38
constant_within p m h = omega (arith, h.small, size_split p m h.area, constant_small p m)
