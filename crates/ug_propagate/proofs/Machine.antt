-- Sums and differences of numbers that fit are what the machine makes of them.
use lib.IntN.{suc_ℤ, pred_ℤ, +ℤ-suc_ℤ, +ℤ-pred_ℤ, suc_ℤ-*ℤ, pred_ℤ-*ℤ, *ℤ_comm}
use Rattle.std.proofs.Common.{◌≡◌, ◌∙◌, sym, ap, zero, suc, ◌+◌, ◌*◌, ◌^◌, ◌≤◌, ℤ, pos, negsuc, ◌+ℤ◌, ◌-ℤ◌, ◌*ℤ◌, unsigned_abs, FitsSigned, arith}
use Rattle.std.proofs.Math.Nat.{mul-le-mul}
use Rattle.std.proofs.lemmas.Int.{ints, fits_signed_from_abs, to_z-of_z, unsigned_abs-mul}
use mir.Syntax.{w32, w64, w128}
use mir.Val.{to_z, of_z}
use Rattle.ug_rows.proofs.Products.{abs_add, abs_sub}

pub wider : (v : ℤ) → unsigned_abs v ≤ 10 ^ 24 * 2 ^ 31 → unsigned_abs v ≤ 10 ^ 24 * 2 ^ 32
wider v h = omega arith

pub slack_same : (v : ℤ) → unsigned_abs v ≤ 9 * 10 ^ 37 → to_z w128 (of_z w128 v) ≡ v
slack_same v h = to_z-of_z w128 v (fits_signed_from_abs w128 v (omega arith))

span_same : (v : ℤ) → unsigned_abs v ≤ 10 ^ 24 * 2 ^ 32 → to_z w128 (of_z w128 v) ≡ v
span_same v h = to_z-of_z w128 v (fits_signed_from_abs w128 v (omega arith))

both_same : (v : ℤ) → unsigned_abs v ≤ 9 * 10 ^ 37 + 10 ^ 24 * 2 ^ 32 → to_z w128 (of_z w128 v) ≡ v
both_same v h = to_z-of_z w128 v (fits_signed_from_abs w128 v (omega arith))

-- a slack and a span
pub slack_plus : (p a b c : ℤ) → unsigned_abs a ≤ 9 * 10 ^ 37 → unsigned_abs b ≤ 10 ^ 24 * 2 ^ 32
    → p ≡ to_z w128 (of_z w128 a) +ℤ to_z w128 (of_z w128 b) → b ≡ c → to_z w128 (of_z w128 p) ≡ a +ℤ c
slack_plus p a b c slack span e same =
    let p_is : p ≡ a +ℤ b = e ∙ ap (λ (v : ℤ). v +ℤ to_z w128 (of_z w128 b)) (slack_same a slack) ∙ ap (λ (v : ℤ). a +ℤ v) (span_same b span) in
    let small : unsigned_abs p ≤ 9 * 10 ^ 37 + 10 ^ 24 * 2 ^ 32 = rw p_is (omega (arith, slack, span, abs_add a b)) in
    both_same p small ∙ p_is ∙ ap (λ (v : ℤ). a +ℤ v) same

-- a slack less a span
pub slack_minus : (p a b c : ℤ) → unsigned_abs a ≤ 9 * 10 ^ 37 → unsigned_abs b ≤ 10 ^ 24 * 2 ^ 32
    → p ≡ to_z w128 (of_z w128 a) -ℤ to_z w128 (of_z w128 b) → b ≡ c → to_z w128 (of_z w128 p) ≡ a -ℤ c
slack_minus p a b c slack span e same =
    let p_is : p ≡ a -ℤ b = e ∙ ap (λ (v : ℤ). v -ℤ to_z w128 (of_z w128 b)) (slack_same a slack) ∙ ap (λ (v : ℤ). a -ℤ v) (span_same b span) in
    let small : unsigned_abs p ≤ 9 * 10 ^ 37 + 10 ^ 24 * 2 ^ 32 = rw p_is (omega (arith, slack, span, abs_sub a b)) in
    both_same p small ∙ p_is ∙ ap (λ (v : ℤ). a -ℤ v) same

-- a span less a slack
pub span_minus : (p a b c : ℤ) → unsigned_abs a ≤ 10 ^ 24 * 2 ^ 32 → unsigned_abs b ≤ 9 * 10 ^ 37
    → p ≡ to_z w128 (of_z w128 a) -ℤ to_z w128 (of_z w128 b) → a ≡ c → to_z w128 (of_z w128 p) ≡ c -ℤ b
span_minus p a b c span slack e same =
    let p_is : p ≡ a -ℤ b = e ∙ ap (λ (v : ℤ). v -ℤ to_z w128 (of_z w128 b)) (span_same a span) ∙ ap (λ (v : ℤ). a -ℤ v) (slack_same b slack) in
    let small : unsigned_abs p ≤ 9 * 10 ^ 37 + 10 ^ 24 * 2 ^ 32 = rw p_is (omega (arith, slack, span, abs_sub a b)) in
    both_same p small ∙ p_is ∙ ap (λ (v : ℤ). v -ℤ b) same

nothing_times : (f : ℤ) → pos 0 *ℤ f ≡ pos 0
nothing_times (pos n) = omega (arith, ints)
nothing_times (negsuc n) = omega (arith, ints)

sum_times : (a d f : ℤ) → (a +ℤ d) *ℤ f ≡ (a *ℤ f) +ℤ (d *ℤ f)
sum_times a (pos zero) f =
    let e : a +ℤ pos 0 ≡ a = omega (arith, ints) in
    ap (λ (v : ℤ). v *ℤ f) e ∙ omega (arith, ints, nothing_times f)
sum_times a (pos (suc n)) f =
    let e : a +ℤ pos (suc n) ≡ suc_ℤ (a +ℤ pos n) = +ℤ-suc_ℤ a (pos n) in
    let g : pos (suc n) *ℤ f ≡ (pos n *ℤ f) +ℤ f = suc_ℤ-*ℤ (pos n) f in
    ap (λ (v : ℤ). v *ℤ f) e ∙ suc_ℤ-*ℤ (a +ℤ pos n) f ∙ omega (arith, ints, sum_times a (pos n) f, g)
sum_times a (negsuc zero) f =
    let e : a +ℤ negsuc zero ≡ pred_ℤ (a +ℤ pos 0) = +ℤ-pred_ℤ a (pos 0) in
    let z : a +ℤ pos 0 ≡ a = omega (arith, ints) in
    let g : negsuc zero *ℤ f ≡ (pos 0 *ℤ f) -ℤ f = pred_ℤ-*ℤ (pos 0) f in
    ap (λ (v : ℤ). v *ℤ f) (e ∙ ap pred_ℤ z) ∙ pred_ℤ-*ℤ a f ∙ omega (arith, ints, nothing_times f, g)
sum_times a (negsuc (suc n)) f =
    let e : a +ℤ negsuc (suc n) ≡ pred_ℤ (a +ℤ negsuc n) = +ℤ-pred_ℤ a (negsuc n) in
    let g : negsuc (suc n) *ℤ f ≡ (negsuc n *ℤ f) -ℤ f = pred_ℤ-*ℤ (negsuc n) f in
    ap (λ (v : ℤ). v *ℤ f) e ∙ pred_ℤ-*ℤ (a +ℤ negsuc n) f ∙ omega (arith, ints, sum_times a (negsuc n) f, g)

-- a coefficient times a sum
pub times_sum : (f a b : ℤ) → f *ℤ (a +ℤ b) ≡ (f *ℤ a) +ℤ (f *ℤ b)
times_sum f a b =
    *ℤ_comm f (a +ℤ b) ∙ sum_times a b f ∙ ap (λ (v : ℤ). v +ℤ (b *ℤ f)) (*ℤ_comm a f) ∙ ap (λ (v : ℤ). (f *ℤ a) +ℤ v) (*ℤ_comm b f)

back : (a b : ℤ) → a +ℤ (b -ℤ a) ≡ b
back a b = omega (arith, ints)

less_first : (whole first rest : ℤ) → whole ≡ first +ℤ rest → rest ≡ whole -ℤ first
less_first whole first rest e = omega (arith, ints)

-- a coefficient times a difference
pub times_difference : (f a b : ℤ) → f *ℤ (b -ℤ a) ≡ (f *ℤ b) -ℤ (f *ℤ a)
times_difference f a b =
    let e : b *ℤ f ≡ (a *ℤ f) +ℤ ((b -ℤ a) *ℤ f) = ap (λ (v : ℤ). v *ℤ f) (sym (back a b)) ∙ sum_times a (b -ℤ a) f in
    *ℤ_comm f (b -ℤ a) ∙ less_first (b *ℤ f) (a *ℤ f) ((b -ℤ a) *ℤ f) e
    ∙ ap (λ (v : ℤ). v -ℤ (a *ℤ f)) (*ℤ_comm b f) ∙ ap (λ (v : ℤ). (f *ℤ b) -ℤ v) (*ℤ_comm a f)

-- what the code of `change` gives is the difference of the products
pub changed : (f p w a b : ℤ) → FitsSigned w128 f → unsigned_abs w ≤ 2 ^ 32 → FitsSigned w32 a → FitsSigned w32 b
    → unsigned_abs p ≤ 10 ^ 24 * 2 ^ 32 → p ≡ to_z w128 (of_z w128 f) *ℤ to_z w64 (of_z w64 w)
    → w ≡ to_z w32 (of_z w32 b) -ℤ to_z w32 (of_z w32 a) → to_z w128 (of_z w128 p) ≡ (f *ℤ b) -ℤ (f *ℤ a)
changed f p w a b f_fits short a_fits b_fits small e g =
    let w_fits : FitsSigned w64 w = fits_signed_from_abs w64 w (omega (arith, short)) in
    let w_is : w ≡ b -ℤ a = g ∙ ap (λ (v : ℤ). v -ℤ to_z w32 (of_z w32 a)) (to_z-of_z w32 b b_fits)
    ∙ ap (λ (v : ℤ). b -ℤ v) (to_z-of_z w32 a a_fits) in
    span_same p small ∙ e ∙ ap (λ (v : ℤ). v *ℤ to_z w64 (of_z w64 w)) (to_z-of_z w128 f f_fits)
    ∙ ap (λ (v : ℤ). f *ℤ v) (to_z-of_z w64 w w_fits ∙ w_is) ∙ times_difference f a b

pub abs_scaled : (f v : ℤ) → unsigned_abs f ≤ 10 ^ 24 → unsigned_abs v ≤ 2 ^ 32 → unsigned_abs (f *ℤ v) ≤ 10 ^ 24 * 2 ^ 32
abs_scaled f v small short = omega (arith, unsigned_abs-mul f v, mul-le-mul small short)

pub scaled_fits : (f v : ℤ) → unsigned_abs f ≤ 10 ^ 24 → unsigned_abs v ≤ 2 ^ 32 → FitsSigned w128 (f *ℤ v)
scaled_fits f v small short = fits_signed_from_abs w128 (f *ℤ v) (omega (arith, abs_scaled f v small short))

-- what the code of `times` gives is the product
pub scaled : (f v r : ℤ) → unsigned_abs f ≤ 10 ^ 24 → unsigned_abs v ≤ 2 ^ 32 → FitsSigned w128 f → FitsSigned w64 v
    → r ≡ to_z w64 (of_z w64 v) → to_z w128 (of_z w128 (to_z w128 (of_z w128 f) *ℤ to_z w128 (of_z w128 r))) ≡ f *ℤ v
scaled f v r small short f_fits v_fits e =
    let e' : r ≡ v = e ∙ to_z-of_z w64 v v_fits in
    let wide : FitsSigned w128 v = fits_signed_from_abs w128 v (omega (arith, short)) in
    let product : FitsSigned w128 (f *ℤ v) = scaled_fits f v small short in
    rw e' (simp to_z-of_z)

-- and is no larger than its coefficients
pub scaled_small : (f v r : ℤ) → unsigned_abs f ≤ 10 ^ 24 → unsigned_abs v ≤ 2 ^ 32 → FitsSigned w128 f → FitsSigned w64 v
    → r ≡ to_z w64 (of_z w64 v)
    → unsigned_abs (to_z w128 (of_z w128 (to_z w128 (of_z w128 f) *ℤ to_z w128 (of_z w128 r)))) ≤ 10 ^ 24 * 2 ^ 32
scaled_small f v r small short f_fits v_fits e =
    rw (scaled f v r small short f_fits v_fits e) (abs_scaled f v small short)
