-- How large the coefficients of a row are together, and what its sums are then at most.
use Rattle.std.proofs.Common.{◌≡◌, subst, sym, ℕ, suc, ◌+◌, ◌*◌, ◌^◌, ◌<◌, ◌≤◌, inl, inr, ℤ, pos, negsuc, ◌+ℤ◌, ◌-ℤ◌, ◌*ℤ◌, unsigned_abs, FitsSigned, List, [], ◌∷◌, ◌++◌, length, take, arith}
use Rattle.std.proofs.Math.Nat.{mul-le-mul}
use Rattle.std.proofs.lemmas.Int.{fits_signed_from_abs, unsigned_abs-mul}
use Rattle.std.proofs.lemmas.List.{take_more}
use mir.Syntax.{w64}
use Rattle.ug_rows.specs.declared.area.Interval.{Interval}
use Rattle.ug_rows.specs.declared.row.Term.{Term}
use Rattle.ug_rows.specs.declared.sums.Extreme.{Extreme}
use Rattle.ug_rows.specs.declared.sums.Extreme.TheVariants.{Least, Greatest}
use Rattle.ug_rows.specs.Boxes.{HasSmallEnds, interval_at}
use Rattle.ug_rows.specs.Rows.{IsAmong, no_term, term_at}
use Rattle.ug_rows.specs.Sums.{end_of, end_product, end_sum}
use Rattle.ug_rows.proofs.Products.{abs_add, abs_sub}
use Rattle.ug_propagate.specs.Shorts.{IsShortRow, size_of}
use Rattle.ug_propagate.specs.Steps.{HaveSmallColumns}

size_of-push : (ts : List Term) (t : Term) → size_of (ts ++ t ∷ []) ≡ size_of ts + unsigned_abs t.factor
size_of-push [] t = omega arith
size_of-push (u ∷ ts) t = omega (arith, size_of-push ts t)

-- the size with one term more
pub size_of_more : (ts : List Term) (i : ℕ) → i < length ts
    → size_of (take (i + 1) ts) ≡ size_of (take i ts) + unsigned_abs (term_at ts i).factor
size_of_more ts i h = rw (take_more ts i no_term h) (size_of-push (take i ts) (term_at ts i))

-- the coefficient of a term is at most the size of the row
pub factor_within : (ts : List Term) (t : Term) → IsAmong t ts → unsigned_abs t.factor ≤ size_of ts
factor_within [] t among = absurd among
factor_within (u ∷ ts) t (inl same) = subst (λ (v : Term). unsigned_abs v.factor ≤ size_of (u ∷ ts)) (sym same) (omega arith)
factor_within (u ∷ ts) t (inr later) = omega (arith, factor_within ts t later)

end_within : (e : Extreme) (f : ℤ) (side : Interval) → HasSmallEnds side → unsigned_abs (end_of e f side) ≤ 2 ^ 31
end_within Least (pos n) side h = h.low
end_within Least (negsuc n) side h = h.high
end_within Greatest (pos n) side h = h.high
end_within Greatest (negsuc n) side h = h.low

-- a product with an end is at most the coefficient times 2^31
pub product_sized : (e : Extreme) (f : ℤ) (side : Interval) → HasSmallEnds side
    → unsigned_abs (f *ℤ end_of e f side) ≤ unsigned_abs f * 2 ^ 31
product_sized e f side small =
    let most : unsigned_abs f * unsigned_abs (end_of e f side) ≤ unsigned_abs f * 2 ^ 31 = mul-le-mul (omega arith) (end_within e f side small) in
    omega (arith, most, unsigned_abs-mul f (end_of e f side))

-- a sum is at most the size times 2^31
sum_sized : (e : Extreme) (ts : List Term) (area : List Interval) → HaveSmallColumns ts area
    → unsigned_abs (end_sum e ts area) ≤ size_of ts * 2 ^ 31
sum_sized e [] area small = omega arith
sum_sized e (t ∷ ts) area small =
    let v : ℤ = end_of e t.factor (interval_at area t.column) in
    let first : unsigned_abs t.factor * unsigned_abs v ≤ unsigned_abs t.factor * 2 ^ 31 =
    mul-le-mul (omega arith) (end_within e t.factor (interval_at area t.column) (small 0 (omega arith))) in
    let later : unsigned_abs (end_sum e ts area) ≤ size_of ts * 2 ^ 31 = sum_sized e ts area (λ k lt. small (suc k) (omega arith)) in
    omega (arith, first, later, unsigned_abs-mul t.factor v, abs_add (end_product e t area) (end_sum e ts area))

-- the sums of a short row are at most 2^60
pub short_sum : (e : Extreme) (ts : List Term) (area : List Interval) → IsShortRow ts → HaveSmallColumns ts area
    → unsigned_abs (end_sum e ts area) ≤ 2 ^ 60
short_sum e ts area short small = omega (arith, short, sum_sized e ts area small)

-- how far a sum moves in 64 bits
pub abs_moved : (f v : ℤ) → unsigned_abs f ≤ 2 ^ 29 → unsigned_abs v ≤ 2 ^ 32 → unsigned_abs (f *ℤ v) ≤ 2 ^ 61
abs_moved f v small short = omega (arith, unsigned_abs-mul f v, mul-le-mul small short)

pub short_sum_fits : (a b : ℤ) → unsigned_abs a + unsigned_abs b < 2 ^ 63 → FitsSigned w64 (a +ℤ b)
short_sum_fits a b small = fits_signed_from_abs w64 (a +ℤ b) (omega (arith, abs_add a b, small))

pub short_difference_fits : (a b : ℤ) → unsigned_abs a + unsigned_abs b < 2 ^ 63 → FitsSigned w64 (a -ℤ b)
short_difference_fits a b small = fits_signed_from_abs w64 (a -ℤ b) (omega (arith, abs_sub a b, small))
