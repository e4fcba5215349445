-- Numbers that are cut to 64 bits, and spans of 64 bits.
use Rattle.std.proofs.Common.{◌≡◌, ◌∙◌, sym, subst, ap, ◌-◌, ◌^◌, ◌<◌, ◌≤◌, ℤ, pos, negsuc, ◌-ℤ◌, ◌*ℤ◌, ◌≤ℤ◌, ◌<ℤ◌, neg_ℤ, unsigned_abs, FitsSigned, List, arith}
use Rattle.std.proofs.Math.Nat.{mul-le-mul}
use Rattle.std.proofs.lemmas.Int.{ints, fits_signed_from_abs, to_z-of_z, unsigned_abs-mul}
use mir.Syntax.{w32, w64, w128}
use mir.Val.{to_z, of_z}
use Rattle.ug_rows.specs.declared.area.Interval.{Interval}
use Rattle.ug_rows.specs.declared.row.Term.{Term}
use Rattle.ug_rows.specs.declared.sums.Extreme.TheVariants.{Least, Greatest}
use Rattle.ug_rows.specs.Boxes.{interval_at}
use Rattle.ug_rows.specs.Sums.{end_of, end_product}
use Rattle.ug_rows.proofs.Orders.{at_most_trans}
use Rattle.ug_propagate.specs.declared.measure.Slack.{Slack}
use Rattle.ug_propagate.proofs.Machine.{times_difference}
use Rattle.ug_propagate.specs.Shorts.{IsShort, IsShortSlack, IsShortSpan}
use Rattle.ug_propagate.specs.Steps.{span_of}

-- a number above the 64 bits
pub short_above : (n short : ℤ) → pos (2 ^ 63 - 1) <ℤ n → IsShort n short
short_above n short above v small less = omega (arith, ints)

-- a number below them
pub short_below : (n : ℤ) → IsShort n (neg_ℤ (pos (2 ^ 63)))
short_below n v small less = omega (arith, ints)

-- a number of 64 bits
pub short_same : (n short : ℤ) → short ≡ n → IsShort n short
short_same n short same v small less = omega (arith, ints)

at_most_named : (v most end : ℤ) → FitsSigned w64 most → FitsSigned w64 end → v ≤ℤ to_z w64 (of_z w64 most)
    → most ≤ℤ to_z w64 (of_z w64 end) → v ≤ℤ end
at_most_named v most end most_fits end_fits less lesser =
    at_most_trans v most end (subst (λ (x : ℤ). v ≤ℤ x) (to_z-of_z w64 most most_fits) less)
    (subst (λ (x : ℤ). most ≤ℤ x) (to_z-of_z w64 end end_fits) lesser)

-- the smaller of two
pub short_slack_of : (slack : Slack) (high low most : ℤ) → to_z w128 (of_z w128 slack.high) ≡ slack.high
    → to_z w128 (of_z w128 slack.low) ≡ slack.low → FitsSigned w64 high → FitsSigned w64 low → FitsSigned w64 most
    → IsShort (to_z w128 (of_z w128 slack.high)) high → IsShort (to_z w128 (of_z w128 slack.low)) low
    → most ≤ℤ to_z w64 (of_z w64 high) → most ≤ℤ to_z w64 (of_z w64 low) → IsShortSlack slack (to_z w64 (of_z w64 most))
short_slack_of slack high low most same_high same_low high_fits low_fits most_fits h k first second v small less =
    let under : v ≤ℤ high = at_most_named v most high most_fits high_fits less first in
    let over : v ≤ℤ low = at_most_named v most low most_fits low_fits less second in
    (subst (λ (x : ℤ). v ≤ℤ x) same_high (h v small under), subst (λ (x : ℤ). v ≤ℤ x) same_low (k v small over))

minus_self : (v : ℤ) → v -ℤ v ≡ pos 0
minus_self v = omega (arith, ints)

one_end : (f : ℤ) (side : Interval) → side.low ≡ side.high → end_of Greatest f side ≡ end_of Least f side
one_end (pos n) side e = sym e
one_end (negsuc n) side e = e

-- a column with one value has no span
pub no_span : (t : Term) (area : List Interval) → (interval_at area t.column).low ≡ (interval_at area t.column).high
    → pos 0 ≡ span_of t area
no_span t area e =
    sym (ap (λ (v : ℤ). (t.factor *ℤ v) -ℤ end_product Least t area) (one_end t.factor (interval_at area t.column) e)
    ∙ minus_self (end_product Least t area))

-- the slack and its short form may be named otherwise
pub short_slack_is : (r s : Slack) (m n : ℤ) → r ≡ s → m ≡ n → IsShortSlack s n → IsShortSlack r m
short_slack_is r s m n e f h = rw e (rw f h)

pub short_slack_named : (r s : Slack) (m n : ℤ) → FitsSigned w64 n → r ≡ s → m ≡ to_z w64 (of_z w64 n) → IsShortSlack s n → IsShortSlack r m
short_slack_named r s m n fits e f h = short_slack_is r s m n e (f ∙ to_z-of_z w64 n fits) h

-- a span of 64 bits within the short slack is within both
pub short_fits : (t : Term) (area : List Interval) (slack : Slack) (span most : ℤ) → IsShortSpan t area span → IsShortSlack slack most
    → span ≤ℤ most → (span_of t area ≤ℤ slack.high) × (span_of t area ≤ℤ slack.low)
short_fits t area slack span most is within less =
    let P : ℤ → Type 0 = λ (v : ℤ). (v ≤ℤ slack.high) × (v ≤ℤ slack.low) in
    subst P is.value (within span is.small less)

-- a product of 31 and 33 bits is of 63
pub abs_short : (f v : ℤ) → unsigned_abs f < 2 ^ 31 → unsigned_abs v ≤ 2 ^ 32 → unsigned_abs (f *ℤ v) < 2 ^ 63
abs_short f v small short =
    let most : unsigned_abs f ≤ 2 ^ 31 - 1 = omega (arith, small) in
    omega (arith, unsigned_abs-mul f v, mul-le-mul most short)

pub short_fits_in : (f v : ℤ) → unsigned_abs f < 2 ^ 31 → unsigned_abs v ≤ 2 ^ 32 → FitsSigned w64 (f *ℤ v)
short_fits_in f v small short = fits_signed_from_abs w64 (f *ℤ v) (omega (arith, abs_short f v small short))

-- what the code of `short_times` gives is the product
pub short_scaled : (f v : ℤ) → unsigned_abs f < 2 ^ 31 → unsigned_abs v ≤ 2 ^ 32 → FitsSigned w64 f → FitsSigned w64 v
    → to_z w64 (of_z w64 (to_z w64 (of_z w64 f) *ℤ to_z w64 (of_z w64 v))) ≡ f *ℤ v
short_scaled f v small short f_fits v_fits =
    let product : FitsSigned w64 (f *ℤ v) = short_fits_in f v small short in
    simp to_z-of_z

-- and is of 63 bits
pub short_scaled_small : (f v : ℤ) → unsigned_abs f < 2 ^ 31 → unsigned_abs v ≤ 2 ^ 32 → FitsSigned w64 f → FitsSigned w64 v
    → unsigned_abs (to_z w64 (of_z w64 (to_z w64 (of_z w64 f) *ℤ to_z w64 (of_z w64 v)))) < 2 ^ 63
short_scaled_small f v small short f_fits v_fits = rw (short_scaled f v small short f_fits v_fits) (abs_short f v small short)

-- what the code of `short_change` gives is the difference of the products
pub short_changed : (f p w a b : ℤ) → FitsSigned w64 f → unsigned_abs w ≤ 2 ^ 32 → FitsSigned w32 a → FitsSigned w32 b
    → unsigned_abs p < 2 ^ 63 → p ≡ to_z w64 (of_z w64 f) *ℤ to_z w64 (of_z w64 w)
    → w ≡ to_z w32 (of_z w32 b) -ℤ to_z w32 (of_z w32 a) → to_z w64 (of_z w64 p) ≡ (f *ℤ b) -ℤ (f *ℤ a)
short_changed f p w a b f_fits short a_fits b_fits small e g =
    let p_fits : FitsSigned w64 p = fits_signed_from_abs w64 p (omega (arith, small)) in
    let w_fits : FitsSigned w64 w = fits_signed_from_abs w64 w (omega (arith, short)) in
    let w_is : w ≡ b -ℤ a = g ∙ ap (λ (v : ℤ). v -ℤ to_z w32 (of_z w32 a)) (to_z-of_z w32 b b_fits)
    ∙ ap (λ (v : ℤ). b -ℤ v) (to_z-of_z w32 a a_fits) in
    to_z-of_z w64 p p_fits ∙ e ∙ ap (λ (v : ℤ). v *ℤ to_z w64 (of_z w64 w)) (to_z-of_z w64 f f_fits)
    ∙ ap (λ (v : ℤ). f *ℤ v) (to_z-of_z w64 w w_fits ∙ w_is) ∙ times_difference f a b

-- the difference of the products at both ends is the span, whatever name the coefficient and the
-- ends have
spanned : (f same again r near far low high : ℤ) (side : Interval) → same ≡ f → again ≡ f → low ≡ near → high ≡ far
    → r ≡ (again *ℤ high) -ℤ (again *ℤ low) → near ≡ end_of Least same side → far ≡ end_of Greatest same side
    → r ≡ (f *ℤ end_of Greatest f side) -ℤ (f *ℤ end_of Least f side)
spanned f same again r near far low high side a b c d e g h =
    e ∙ ap (λ (v : ℤ). (v *ℤ high) -ℤ (v *ℤ low)) b
    ∙ ap (λ (v : ℤ). (f *ℤ v) -ℤ (f *ℤ low)) (d ∙ h ∙ ap (λ (v : ℤ). end_of Greatest v side) a)
    ∙ ap (λ (v : ℤ). (f *ℤ end_of Greatest f side) -ℤ (f *ℤ v)) (c ∙ g ∙ ap (λ (v : ℤ). end_of Least v side) a)

-- what the code of `short_span` gives is the span
pub short_span_is : (t : Term) (area : List Interval) (r near far : ℤ) → to_z w128 (of_z w128 t.factor) ≡ t.factor
    → unsigned_abs t.factor < 2 ^ 31 → FitsSigned w32 near → FitsSigned w32 far
    → r ≡ (to_z w64 (of_z w64 (to_z w128 (of_z w128 t.factor))) *ℤ to_z w32 (of_z w32 far))
    -ℤ (to_z w64 (of_z w64 (to_z w128 (of_z w128 t.factor))) *ℤ to_z w32 (of_z w32 near))
    → near ≡ end_of Least (to_z w128 (of_z w128 t.factor)) (interval_at area t.column)
    → far ≡ end_of Greatest (to_z w128 (of_z w128 t.factor)) (interval_at area t.column)
    → unsigned_abs r < 2 ^ 63 → IsShortSpan t area (to_z w64 (of_z w64 r))
short_span_is t area r near far same short near_fits far_fits e low high small =
    let f_fits : FitsSigned w64 t.factor = fits_signed_from_abs w64 t.factor (omega (arith, short)) in
    let again : to_z w64 (of_z w64 (to_z w128 (of_z w128 t.factor))) ≡ t.factor =
    ap (λ (v : ℤ). to_z w64 (of_z w64 v)) same ∙ to_z-of_z w64 t.factor f_fits in
    let whole : to_z w64 (of_z w64 r) ≡ r = to_z-of_z w64 r (fits_signed_from_abs w64 r (omega (arith, small))) in
    record {
      value = whole ∙ spanned t.factor _ _ r near far _ _ (interval_at area t.column) same again (to_z-of_z w32 near near_fits)
          (to_z-of_z w32 far far_fits) e low high;
      small = rw whole small;
    }
