-- How the least and the greatest sum of terms change when one column's interval is replaced, and
-- how large they are.
use Rattle.std.proofs.Common.{◌≡◌, ◌≢◌, refl, sym, ap, subst, ◌∙◌, inl, inr, ℕ, zero, suc, ◌*◌, ◌^◌, ◌<◌, ◌≤◌, ℤ, pos, negsuc, ◌+ℤ◌, ◌-ℤ◌, ◌*ℤ◌, unsigned_abs, List, [], ◌∷◌, length, set, arith}
use Rattle.std.proofs.lemmas.Int.{ints, unsigned_abs-mul}
use Rattle.std.proofs.lemmas.List.{get_or-set_other, get_or-set_same}
use Rattle.std.proofs.Math.Nat.{mul-le-mul}
use Rattle.ug_rows.specs.declared.area.Interval.{Interval}
use Rattle.ug_rows.specs.declared.row.Term.{Term}
use Rattle.ug_rows.specs.declared.sums.Extreme.{Extreme}
use Rattle.ug_rows.specs.declared.sums.Extreme.TheVariants.{Least, Greatest}
use Rattle.ug_rows.specs.Boxes.{HasSmallEnds, interval_at, no_interval}
use Rattle.ug_rows.specs.Rows.{IsAmong, IsLinear, term_at}
use Rattle.ug_rows.specs.Sums.{end_of, end_product, end_sum}
use Rattle.ug_rows.proofs.EndBounds.{IsFree, AreApart, apart_from_index}
use Rattle.ug_rows.proofs.Products.{abs_add}
use Rattle.ug_rows.proofs.SumLemmas.{few_terms}

pub among_at : (ts : List Term) (k : ℕ) → k < length ts → IsAmong (term_at ts k) ts
among_at [] k h = absurd (omega arith)
among_at (t ∷ ts) zero h = inl refl
among_at (t ∷ ts) (suc k) h = inr (among_at ts k (omega arith))

free_at : (j : ℕ) (ts : List Term) → ((k : ℕ) → k < length ts → (term_at ts k).column ≢ j) → IsFree j ts
free_at j [] h = tt
free_at j (t ∷ ts) h = (h 0 (omega arith), free_at j ts (λ k lt. h (suc k) (omega arith)))

-- a term of another column has the end that it had
product_other : (e : Extreme) (t : Term) (area : List Interval) (j : ℕ) (side : Interval) → t.column ≢ j
    → end_product e t (set area j side) ≡ end_product e t area
product_other e t area j side ne =
    ap (λ (s : Interval). t.factor *ℤ end_of e t.factor s) (get_or-set_other area j t.column side no_interval ne)

sum_free : (e : Extreme) (ts : List Term) (area : List Interval) (j : ℕ) (side : Interval) → IsFree j ts
    → end_sum e ts (set area j side) ≡ end_sum e ts area
sum_free e [] area j side free = refl
sum_free e (t ∷ ts) area j side free =
    ap (λ (a : ℤ). a +ℤ end_sum e ts (set area j side)) (product_other e t area j side free.0)
    ∙ ap (λ (s : ℤ). end_product e t area +ℤ s) (sum_free e ts area j side free.1)

first_new : (old new rest : ℤ) → new +ℤ rest ≡ ((old +ℤ rest) -ℤ old) +ℤ new
first_new old new rest = omega (arith, ints)

later_new : (first sum old new : ℤ) → first +ℤ ((sum -ℤ old) +ℤ new) ≡ ((first +ℤ sum) -ℤ old) +ℤ new
later_new first sum old new = omega (arith, ints)

free_apart : (t u : Term) (us : List Term) → IsFree u.column us → IsAmong t us → u.column ≢ t.column
free_apart t u [] free among = absurd among
free_apart t u (v ∷ vs) free (inl same) = λ e. free.0 (sym (e ∙ ap (λ (w : Term). w.column) same))
free_apart t u (v ∷ vs) free (inr later) = free_apart t u vs free.1 later

sum_among : (e : Extreme) (ts : List Term) (t : Term) (area : List Interval) (side : Interval) → AreApart ts → IsAmong t ts
    → end_sum e ts (set area t.column side)
    ≡ (end_sum e ts area -ℤ end_product e t area) +ℤ end_product e t (set area t.column side)
sum_among e [] t area side apart among = absurd among
sum_among e (u ∷ us) t area side apart (inl same) =
    let old : Term → Type 0 = λ (w : Term). end_sum e (u ∷ us) (set area w.column side)
    ≡ (end_sum e (u ∷ us) area -ℤ end_product e w area) +ℤ end_product e w (set area w.column side) in
    subst old (sym same)
    (ap (λ (s : ℤ). end_product e u (set area u.column side) +ℤ s) (sum_free e us area u.column side apart.0)
    ∙ first_new (end_product e u area) (end_product e u (set area u.column side)) (end_sum e us area))
sum_among e (u ∷ us) t area side apart (inr later) =
    let ne : u.column ≢ t.column = free_apart t u us apart.0 later in
    ap (λ (a : ℤ). a +ℤ end_sum e us (set area t.column side)) (product_other e u area t.column side ne)
    ∙ ap (λ (s : ℤ). end_product e u area +ℤ s) (sum_among e us t area side apart.1 later)
    ∙ later_new (end_product e u area) (end_sum e us area) (end_product e t area) (end_product e t (set area t.column side))

-- if no term has the column, the sum is as it was
pub sum_without : (e : Extreme) (ts : List Term) (area : List Interval) (j : ℕ) (side : Interval)
    → ((k : ℕ) → k < length ts → (term_at ts k).column ≢ j)
    → end_sum e ts (set area j side) ≡ end_sum e ts area
sum_without e ts area j side other = sum_free e ts area j side (free_at j ts other)

-- if a term has it, the sum loses the term's old end and gains its new one
pub sum_with : (e : Extreme) (width : ℕ) (ts : List Term) (t : Term) (area : List Interval) (side : Interval)
    → IsLinear width ts → IsAmong t ts
    → end_sum e ts (set area t.column side)
    ≡ (end_sum e ts area -ℤ end_product e t area) +ℤ end_product e t (set area t.column side)
sum_with e width ts t area side linear among = sum_among e ts t area side (apart_from_index ts linear.rising) among

-- and that new end is the one in the interval that is put there
pub product_new : (e : Extreme) (t : Term) (area : List Interval) (side : Interval) → t.column < length area
    → end_product e t (set area t.column side) ≡ t.factor *ℤ end_of e t.factor side
product_new e t area side there =
    ap (λ (s : Interval). t.factor *ℤ end_of e t.factor s) (get_or-set_same area t.column side no_interval there)

end_small : (e : Extreme) (f : ℤ) (side : Interval) → HasSmallEnds side → unsigned_abs (end_of e f side) ≤ 2 ^ 31
end_small Least (pos n) side h = h.low
end_small Least (negsuc n) side h = h.high
end_small Greatest (pos n) side h = h.high
end_small Greatest (negsuc n) side h = h.low

sum_at_most : (e : Extreme) (ts : List Term) (area : List Interval)
    → ((k : ℕ) → k < length ts → HasSmallEnds (interval_at area (term_at ts k).column))
    → ((k : ℕ) → k < length ts → unsigned_abs (term_at ts k).factor ≤ 10 ^ 24)
    → unsigned_abs (end_sum e ts area) ≤ length ts * (10 ^ 24 * 2 ^ 31)
sum_at_most e [] area small factors = omega arith
sum_at_most e (t ∷ ts) area small factors =
    let v : ℤ = end_of e t.factor (interval_at area t.column) in
    let first : unsigned_abs t.factor * unsigned_abs v ≤ 10 ^ 24 * 2 ^ 31 =
    mul-le-mul (factors 0 (omega arith)) (end_small e t.factor (interval_at area t.column) (small 0 (omega arith))) in
    let later : unsigned_abs (end_sum e ts area) ≤ length ts * (10 ^ 24 * 2 ^ 31) =
    sum_at_most e ts area (λ k lt. small (suc k) (omega arith)) (λ k lt. factors (suc k) (omega arith)) in
    omega (arith, first, later, unsigned_abs-mul t.factor v, abs_add (end_product e t area) (end_sum e ts area))

-- if the columns of the terms have i32 numbers, the sums are at most 3 * 10^37
pub sum_small : (e : Extreme) (width : ℕ) (ts : List Term) (area : List Interval) → IsLinear width ts
    → ((k : ℕ) → k < length ts → HasSmallEnds (interval_at area (term_at ts k).column))
    → unsigned_abs (end_sum e ts area) ≤ 3 * 10 ^ 37
sum_small e width ts area linear small =
    omega (arith, sum_at_most e ts area small linear.small, few_terms width ts linear)
