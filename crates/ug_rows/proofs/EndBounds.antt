-- The sum of the ends of a box bounds the sum at each point of it, and is reached at one.
use Rattle.std.proofs.Common.{◌≡◌, ◌≢◌, ℕ, suc, ◌*◌, ◌<◌, ◌≤◌, ℤ, pos, negsuc, ◌+ℤ◌, ◌*ℤ◌, ◌≤ℤ◌, List, [], ◌∷◌, length, map, set, refl, sym, ap, ◌∙◌, subst, inl, inr, arith}
use Rattle.std.proofs.Math.Nat.{mul-le-mul_left}
use Rattle.std.proofs.lemmas.Int.{ints}
use Rattle.std.proofs.lemmas.Bool.{cases_eq}
use Rattle.std.proofs.lemmas.List.{get_or-set_other, get_or-set_same, length-set, length-map, get_or-map}
use Rattle.ug_rows.specs.declared.area.Interval.{Interval}
use Rattle.ug_rows.specs.declared.row.Term.{Term}
use Rattle.ug_rows.specs.declared.sums.Extreme.{Extreme}
use Rattle.ug_rows.specs.declared.sums.Extreme.TheVariants.{Least, Greatest}
use Rattle.ug_rows.specs.Boxes.{IsInside, IsWithin, IsNonEmpty, interval_at, no_interval, value_at}
use Rattle.ug_rows.specs.Rows.{IsLinear, term_at, sum_at}
use Rattle.ug_rows.specs.Sums.{IsBound, end_of, end_sum}

-- a coefficient of at least 0 keeps an order
pub mul_pos : (n : ℕ) (a b : ℤ) → a ≤ℤ b → (pos n *ℤ a) ≤ℤ (pos n *ℤ b)
mul_pos n (pos a) (pos b) h = let k : n * a ≤ n * b = mul-le-mul_left n (omega (arith, ints)) in omega (arith, ints, k)
mul_pos n (negsuc a) (pos b) h = omega (arith, ints)
mul_pos n (pos a) (negsuc b) h = absurd (omega (arith, ints))
mul_pos n (negsuc a) (negsuc b) h = let k : n * suc b ≤ n * suc a = mul-le-mul_left n (omega (arith, ints)) in omega (arith, ints, k)

-- a coefficient below 0 turns it
pub mul_neg : (n : ℕ) (a b : ℤ) → a ≤ℤ b → (negsuc n *ℤ b) ≤ℤ (negsuc n *ℤ a)
mul_neg n (pos a) (pos b) h = let k : suc n * a ≤ suc n * b = mul-le-mul_left (suc n) (omega (arith, ints)) in omega (arith, ints, k)
mul_neg n (negsuc a) (pos b) h = omega (arith, ints)
mul_neg n (pos a) (negsuc b) h = absurd (omega (arith, ints))
mul_neg n (negsuc a) (negsuc b) h = let k : suc n * suc b ≤ suc n * suc a = mul-le-mul_left (suc n) (omega (arith, ints)) in omega (arith, ints, k)

-- the product at the end bounds the product at each value
product_bound : (e : Extreme) (f : ℤ) (side : Interval) (v : ℤ) → IsWithin side v → IsBound e (f *ℤ end_of e f side) (f *ℤ v)
product_bound Least (pos n) side v w = mul_pos n side.low v w.low
product_bound Least (negsuc n) side v w = mul_neg n v side.high w.high
product_bound Greatest (pos n) side v w = mul_pos n v side.high w.high
product_bound Greatest (negsuc n) side v w = mul_neg n side.low v w.low

bound_add : (e : Extreme) (a b c d : ℤ) → IsBound e a c → IsBound e b d → IsBound e (a +ℤ b) (c +ℤ d)
bound_add Least a b c d p q = omega (arith, ints)
bound_add Greatest a b c d p q = omega (arith, ints)

bound_none : (e : Extreme) → IsBound e (pos 0) (pos 0)
bound_none Least = omega (arith, ints)
bound_none Greatest = omega (arith, ints)

-- each term's column is one of the box
abbrev pub AreThere : ℕ → List Term → Type 0
AreThere width [] = Unit {0}
AreThere width (t ∷ ts) = (t.column < width) × AreThere width ts

pub there_from_index : (width : ℕ) (ts : List Term) → ((k : ℕ) → k < length ts → (term_at ts k).column < width) → AreThere width ts
there_from_index width [] h = tt
there_from_index width (t ∷ ts) h = (h 0 (omega arith), there_from_index width ts (λ k lt. h (suc k) (omega arith)))

-- the sum of the ends bounds the sum at each point
pub end_bound : (e : Extreme) (ts : List Term) (area : List Interval) (x : List ℤ) → AreThere (length area) ts → IsInside area x → IsBound e (end_sum e ts area) (sum_at ts x)
end_bound e [] area x h i = bound_none e
end_bound e (t ∷ ts) area x h i =
    bound_add e _ _ _ _ (product_bound e t.factor (interval_at area t.column) (value_at x t.column) (i.each t.column h.0)) (end_bound e ts area x h.1 i)

-- the end lies within an interval that has a value
end_within : (e : Extreme) (f : ℤ) (side : Interval) → side.low ≤ℤ side.high → IsWithin side (end_of e f side)
end_within Least (pos n) side h = record { low = omega (arith, ints); high = h }
end_within Least (negsuc n) side h = record { low = h; high = omega (arith, ints) }
end_within Greatest (pos n) side h = record { low = h; high = omega (arith, ints) }
end_within Greatest (negsuc n) side h = record { low = omega (arith, ints); high = h }

-- the point that takes each term's end in its column, and the low of each other column
abbrev pub ends_point : Extreme → List Term → List Interval → List ℤ
ends_point e [] area = map (λ (side : Interval). side.low) area
ends_point e (t ∷ ts) area = set (ends_point e ts area) t.column (end_of e t.factor (interval_at area t.column))

-- a value within its interval may be put into a point of the box
inside_set : (area : List Interval) (x : List ℤ) (c : ℕ) (v : ℤ) → IsInside area x → IsWithin (interval_at area c) v → IsInside area (set x c v)
inside_set area x c v i w = record {
  width = length-set x c v ∙ i.width;
  each = λ j k. elim (cases_eq j c) [
    | inl e ↦ let at : value_at (set x c v) j ≡ v = rw e (get_or-set_same x c v (pos 0) (subst (λ n. c < n) (sym i.width) (subst (λ n. n < length area) e k))) in
        subst (λ y. IsWithin (interval_at area j) y) (sym at) (subst (λ n. IsWithin (interval_at area n) v) (sym e) w)
    | inr ne ↦ subst (λ y. IsWithin (interval_at area j) y) (sym (get_or-set_other x c j v (pos 0) ne)) (i.each j k)
  ];
}

lows_inside : (area : List Interval) → IsNonEmpty area → IsInside area (map (λ (side : Interval). side.low) area)
lows_inside area n = record {
  width = length-map area (λ (side : Interval). side.low);
  each = λ j k. let e = get_or-map (λ (side : Interval). side.low) area j no_interval (pos 0) k in
      subst (λ y. IsWithin (interval_at area j) y) (sym e) (record { low = omega (arith, ints); high = n j k });
}

ends_width : (e : Extreme) (ts : List Term) (area : List Interval) → length (ends_point e ts area) ≡ length area
ends_width e [] area = length-map area (λ (side : Interval). side.low)
ends_width e (t ∷ ts) area = length-set (ends_point e ts area) t.column _ ∙ ends_width e ts area

-- it lies in the box
pub ends_inside : (e : Extreme) (ts : List Term) (area : List Interval) → IsNonEmpty area → AreThere (length area) ts → IsInside area (ends_point e ts area)
ends_inside e [] area n h = lows_inside area n
ends_inside e (t ∷ ts) area n h =
    inside_set area (ends_point e ts area) t.column _ (ends_inside e ts area n h.1) (end_within e t.factor (interval_at area t.column) (n t.column h.0))

-- no term has this column
abbrev pub IsFree : ℕ → List Term → Type 0
IsFree c [] = Unit {0}
IsFree c (t ∷ ts) = (t.column ≢ c) × IsFree c ts

-- each term's column is free behind it
abbrev pub AreApart : List Term → Type 0
AreApart [] = Unit {0}
AreApart (t ∷ ts) = IsFree t.column ts × AreApart ts

-- a value in a column that no term has changes no sum
pub sum_at-set : (ts : List Term) (x : List ℤ) (c : ℕ) (v : ℤ) → IsFree c ts → sum_at ts (set x c v) ≡ sum_at ts x
sum_at-set [] x c v h = refl
sum_at-set (t ∷ ts) x c v h =
    let a = get_or-set_other x c t.column v (pos 0) h.0 in
    let b = sum_at-set ts x c v h.1 in
    ap (λ y. (t.factor *ℤ y) +ℤ sum_at ts (set x c v)) a ∙ ap (λ y. (t.factor *ℤ value_at x t.column) +ℤ y) b

-- the sum is reached there
pub ends_reached : (e : Extreme) (ts : List Term) (area : List Interval) → AreThere (length area) ts → AreApart ts → sum_at ts (ends_point e ts area) ≡ end_sum e ts area
ends_reached e [] area h a = refl
ends_reached e (t ∷ ts) area h a =
    let v = end_of e t.factor (interval_at area t.column) in
    let wide = ends_width e ts area in
    let at : value_at (ends_point e (t ∷ ts) area) t.column ≡ v = get_or-set_same (ends_point e ts area) t.column v (pos 0) (subst (λ n. t.column < n) (sym wide) h.0) in
    ap (λ y. (t.factor *ℤ y) +ℤ sum_at ts (ends_point e (t ∷ ts) area)) at
    ∙ ap (λ y. (t.factor *ℤ v) +ℤ y) (sum_at-set ts (ends_point e ts area) t.column v a.0 ∙ ends_reached e ts area h.1 a.1)

-- terms whose columns rise are apart
free_from_index : (c : ℕ) (ts : List Term) → ((k : ℕ) → k < length ts → c < (term_at ts k).column) → IsFree c ts
free_from_index c [] h = tt
free_from_index c (t ∷ ts) h =
    let first : c < t.column = h 0 (omega arith) in
    ((λ same. absurd (omega arith)), free_from_index c ts (λ k lt. h (suc k) (omega arith)))

pub apart_from_index : (ts : List Term) → ((i k : ℕ) → i < k → k < length ts → (term_at ts i).column < (term_at ts k).column) → AreApart ts
apart_from_index [] h = tt
apart_from_index (t ∷ ts) h =
    (free_from_index t.column ts (λ k lt. h 0 (suc k) (omega arith) (omega arith)), apart_from_index ts (λ i k a b. h (suc i) (suc k) (omega arith) (omega arith)))

-- the sum of the ends of terms over the columns of a box is a bound
pub sum_bound : (e : Extreme) (ts : List Term) (area : List Interval) (r : ℤ) → IsLinear (length area) ts → r ≡ end_sum e ts area
    → (x : List ℤ) → IsInside area x → IsBound e r (sum_at ts x)
sum_bound e ts area r l same x i = subst (λ s. IsBound e s (sum_at ts x)) (sym same) (end_bound e ts area x (there_from_index _ ts l.within) i)

-- and it is reached where the box has a point
pub sum_reached : (e : Extreme) (ts : List Term) (area : List Interval) (r : ℤ) → IsLinear (length area) ts → r ≡ end_sum e ts area
    → IsNonEmpty area → (x : List ℤ) × IsInside area x × (sum_at ts x ≡ r)
sum_reached e ts area r l same n =
    let there = there_from_index _ ts l.within in
    (ends_point e ts area, ends_inside e ts area n there, ends_reached e ts area there (apart_from_index ts l.rising) ∙ sym same)
