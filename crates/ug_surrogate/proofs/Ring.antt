-- Products of whole numbers over sums.
use Rattle.std.proofs.Common.{◌≡◌, ◌∙◌, ap, sym, ℕ, zero, suc, ℤ, pos, negsuc, ◌+ℤ◌, ◌-ℤ◌, ◌*ℤ◌, neg_ℤ, arith}
use Rattle.std.proofs.lemmas.Int.{ints}
use lib.IntN.{suc_ℤ-*ℤ, pred_ℤ-*ℤ, zero-*ℤ, *ℤ_comm}

mul_add_pos : (n : ℕ) (b c : ℤ) → pos n *ℤ (b +ℤ c) ≡ (pos n *ℤ b) +ℤ (pos n *ℤ c)
mul_add_pos zero b c = omega (arith, ints, zero-*ℤ (b +ℤ c), zero-*ℤ b, zero-*ℤ c)
mul_add_pos (suc n) b c =
    omega (arith, ints, suc_ℤ-*ℤ (pos n) (b +ℤ c), suc_ℤ-*ℤ (pos n) b, suc_ℤ-*ℤ (pos n) c, mul_add_pos n b c)

mul_add_neg : (n : ℕ) (b c : ℤ) → negsuc n *ℤ (b +ℤ c) ≡ (negsuc n *ℤ b) +ℤ (negsuc n *ℤ c)
mul_add_neg zero b c =
    omega (arith, ints, pred_ℤ-*ℤ (pos 0) (b +ℤ c), pred_ℤ-*ℤ (pos 0) b, pred_ℤ-*ℤ (pos 0) c, zero-*ℤ (b +ℤ c), zero-*ℤ b, zero-*ℤ c)
mul_add_neg (suc n) b c =
    omega (arith, ints, pred_ℤ-*ℤ (negsuc n) (b +ℤ c), pred_ℤ-*ℤ (negsuc n) b, pred_ℤ-*ℤ (negsuc n) c, mul_add_neg n b c)

pub mul_add : (a b c : ℤ) → a *ℤ (b +ℤ c) ≡ (a *ℤ b) +ℤ (a *ℤ c)
mul_add (pos n) b c = mul_add_pos n b c
mul_add (negsuc n) b c = mul_add_neg n b c

pub add_mul : (a b c : ℤ) → (a +ℤ b) *ℤ c ≡ (a *ℤ c) +ℤ (b *ℤ c)
add_mul a b c = omega (arith, ints, *ℤ_comm (a +ℤ b) c, mul_add c a b, *ℤ_comm a c, *ℤ_comm b c)

assoc_pos : (n : ℕ) (b c : ℤ) → pos n *ℤ (b *ℤ c) ≡ (pos n *ℤ b) *ℤ c
assoc_pos zero b c = zero-*ℤ (b *ℤ c) ∙ sym (zero-*ℤ c) ∙ ap (λ (z : ℤ). z *ℤ c) (sym (zero-*ℤ b))
assoc_pos (suc n) b c =
    let e : (pos (suc n) *ℤ b) *ℤ c ≡ ((pos n *ℤ b) +ℤ b) *ℤ c = ap (λ (z : ℤ). z *ℤ c) (suc_ℤ-*ℤ (pos n) b) in
    omega (arith, ints, suc_ℤ-*ℤ (pos n) (b *ℤ c), assoc_pos n b c, e, add_mul (pos n *ℤ b) b c)

less_mul : (a b c : ℤ) → (a -ℤ b) *ℤ c ≡ (a *ℤ c) -ℤ (b *ℤ c)
less_mul a b c =
    let e : (a -ℤ b) +ℤ b ≡ a = omega (arith, ints) in
    let f : ((a -ℤ b) +ℤ b) *ℤ c ≡ a *ℤ c = ap (λ (z : ℤ). z *ℤ c) e in
    omega (arith, ints, f, add_mul (a -ℤ b) b c)

assoc_neg : (n : ℕ) (b c : ℤ) → negsuc n *ℤ (b *ℤ c) ≡ (negsuc n *ℤ b) *ℤ c
assoc_neg zero b c =
    let f : pos 0 *ℤ b ≡ pos 0 = zero-*ℤ b in
    let e : (negsuc 0 *ℤ b) *ℤ c ≡ (pos 0 -ℤ b) *ℤ c =
    ap (λ (z : ℤ). z *ℤ c) (pred_ℤ-*ℤ (pos 0) b ∙ ap (λ (z : ℤ). z -ℤ b) f) in
    omega (arith, ints, pred_ℤ-*ℤ (pos 0) (b *ℤ c), zero-*ℤ (b *ℤ c), e, less_mul (pos 0) b c, zero-*ℤ c)
assoc_neg (suc n) b c =
    let e : (negsuc (suc n) *ℤ b) *ℤ c ≡ ((negsuc n *ℤ b) -ℤ b) *ℤ c = ap (λ (z : ℤ). z *ℤ c) (pred_ℤ-*ℤ (negsuc n) b) in
    omega (arith, ints, pred_ℤ-*ℤ (negsuc n) (b *ℤ c), assoc_neg n b c, e, less_mul (negsuc n *ℤ b) b c)

pub mul_assoc : (a b c : ℤ) → a *ℤ (b *ℤ c) ≡ (a *ℤ b) *ℤ c
mul_assoc (pos n) b c = assoc_pos n b c
mul_assoc (negsuc n) b c = assoc_neg n b c

pub mul_less : (a b c : ℤ) → a *ℤ (b -ℤ c) ≡ (a *ℤ b) -ℤ (a *ℤ c)
mul_less a b c =
    let e : (b -ℤ c) +ℤ c ≡ b = omega (arith, ints) in
    let f : a *ℤ ((b -ℤ c) +ℤ c) ≡ a *ℤ b = ap (λ (z : ℤ). a *ℤ z) e in
    omega (arith, ints, f, mul_add a (b -ℤ c) c)

pub neg_mul : (a b : ℤ) → neg_ℤ a *ℤ b ≡ neg_ℤ (a *ℤ b)
neg_mul a b =
    let e : neg_ℤ a +ℤ a ≡ pos 0 = omega (arith, ints) in
    let f : (neg_ℤ a +ℤ a) *ℤ b ≡ pos 0 = ap (λ (z : ℤ). z *ℤ b) e ∙ zero-*ℤ b in
    omega (arith, ints, f, add_mul (neg_ℤ a) a b)

pub mul_neg_right : (a b : ℤ) → a *ℤ neg_ℤ b ≡ neg_ℤ (a *ℤ b)
mul_neg_right a b = omega (arith, ints, *ℤ_comm a (neg_ℤ b), neg_mul b a, *ℤ_comm a b)
