-- Powers of ten, and the numbers below them.
use Rattle.std.proofs.Common.{◌≡◌, ◌∙◌, ap, ℕ, ◌+◌, ◌-◌, ◌*◌, ◌^◌, ◌<◌, ◌≤◌, pow-add, arith}
use Rattle.std.proofs.Math.Nat.{one-le-pow, pow-le-pow_right, mul-le-mul_right}

-- a power of at most 38 fits
pub power_small : (k : ℕ) → k ≤ 38 → 10 ^ k ≤ 10 ^ 38
power_small k few = pow-le-pow_right {n = 10} (omega arith) few

-- ten to 38 in two parts
parts : (k : ℕ) → k ≤ 38 → 10 ^ 38 ≡ 10 ^ (38 - k) * 10 ^ k
parts k few = let e : 38 ≡ (38 - k) + k = omega arith in ap (λ (j : ℕ). 10 ^ j) e ∙ pow-add 10 (38 - k) k

-- a number with few enough digits may be raised
pub raised_below : (n k : ℕ) → k ≤ 38 → n < 10 ^ (38 - k) → n * 10 ^ k < 10 ^ 38
raised_below n k few below =
    let some : 1 ≤ 10 ^ k = one-le-pow k 10 (omega arith) in
    let step : (n + 1) * 10 ^ k ≤ 10 ^ (38 - k) * 10 ^ k = mul-le-mul_right (10 ^ k) (omega arith) in
    let e = parts k few in
    omega arith

-- a number with more may not
pub raised_above : (n k : ℕ) → k ≤ 38 → 10 ^ (38 - k) ≤ n → 10 ^ 38 ≤ n * 10 ^ k
raised_above n k few above =
    let step : 10 ^ (38 - k) * 10 ^ k ≤ n * 10 ^ k = mul-le-mul_right (10 ^ k) above in
    let e = parts k few in
    omega arith

-- a power above 37 is too much for any number but 0
pub raised_far : (n k : ℕ) → 0 < n → 37 < k → 10 ^ 38 ≤ n * 10 ^ k
raised_far n k some far =
    let high : 38 ≤ k = omega arith in
    let power : 10 ^ 38 ≤ 10 ^ k = pow-le-pow_right {n = 10} (omega arith) high in
    let step : 1 * 10 ^ k ≤ n * 10 ^ k = mul-le-mul_right (10 ^ k) some in
    omega arith
