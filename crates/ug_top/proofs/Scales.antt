-- The scaled gap, digit by digit.
use Rattle.std.proofs.Common.{◌≡◌, ℕ, suc, ℤ, pos, ◌+◌, ◌*◌, ◌^◌, sym, ◌∙◌, ap, subst, arith}
use Rattle.std.specs.Prelude.{min, unsigned_abs}
use Rattle.std.proofs.Math.Nat.{mul_assoc, pow-suc}
use Rattle.ug_top.specs.Scaled.{scaled_gap}

abbrev most : ℕ
most = 4 * 10 ^ 37

capped : (n : ℕ) → min (min n most * 10) most ≡ min (n * 10) most
capped n = omega arith

next : (k : ℕ) → suc k ≡ k + 1
next k = omega arith

ten_more : (gap k : ℕ) → gap * 10 ^ k * 10 ≡ gap * 10 ^ (k + 1)
ten_more gap k =
    subst (λ n. gap * 10 ^ k * 10 ≡ gap * 10 ^ n) (next k)
    (mul_assoc gap (10 ^ k) 10 ∙ ap (λ n. gap * n) (sym (pow-suc 10 k)))

pub one_more : (gap k : ℕ) (scaled result : ℤ) → scaled ≡ scaled_gap gap k
    → result ≡ pos (min (unsigned_abs scaled * 10) (4 * 10 ^ 37)) → result ≡ scaled_gap gap (k + 1)
one_more gap k scaled result is more =
    more ∙ ap (λ (z : ℤ). pos (min (unsigned_abs z * 10) most)) is
    ∙ ap pos (capped (gap * 10 ^ k) ∙ ap (λ n. min n most) (ten_more gap k))
