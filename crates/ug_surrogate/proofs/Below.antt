-- The least of a weighted sum, divided by the weight of the objective, is below each feasible
-- value.
use Rattle.std.proofs.Common.{◌≡◌, ℕ, suc, ◌<◌, ◌+◌, ◌*◌, ◌/◌, ◌%◌, ℤ, pos, negsuc, ◌+ℤ◌, ◌-ℤ◌, ◌*ℤ◌, neg_ℤ, ◌≤ℤ◌, ◌<ℤ◌, List, [], ◌∷◌, length, Option, Some, None, IfSome, IsSome, arith}
use Rattle.std.proofs.lemmas.Int.{ints, by_lt_z}
use Rattle.std.proofs.lemmas.Bool.{false≢true}
use lib.IntN.{*ℤ-one}
use Rattle.std.specs.Int.{int_div_euclid}
use Rattle.std.specs.Option.{unwrap_or}
use Rattle.ug_rows.specs.declared.row.Row.{Row}
use Rattle.ug_rows.specs.Rows.{Keeps, sum_at, value_of}
use Rattle.ug_rows.proofs.EndBounds.{mul_pos}
use Rattle.ug_problem.specs.Instances.{Instance, row_at}
use Rattle.ug_problem.specs.Feasible.{Feasible}
use Rattle.ug_surrogate.specs.declared.multipliers.Side.{Side}
use Rattle.ug_surrogate.specs.declared.multipliers.Side.TheVariants.{Low, High}
use Rattle.ug_surrogate.specs.declared.multipliers.Multiplier.{Multiplier}
use Rattle.ug_surrogate.specs.declared.multipliers.Multipliers.{Multipliers}
use Rattle.ug_surrogate.proofs.Ring.{mul_add, mul_neg_right}
use Rattle.ug_surrogate.specs.Weights.{AreMultipliers, BoundsAreBelow, HasSide, excess_at, excess_over, excesses_at, multiplier_at, rounded_up, side_of, weighted_at}

-- a kept side is not missed
low_kept : (low : Option ℤ) (sum : ℤ) → IsSome low → IfSome low (λ l. l ≤ℤ sum) → (unwrap_or low (pos 0) -ℤ sum) ≤ℤ pos 0
low_kept None sum some h = absurd (false≢true some)
low_kept (Some low) sum some h = omega (arith, ints, h)

high_kept : (high : Option ℤ) (sum : ℤ) → IsSome high → IfSome high (λ h. sum ≤ℤ h) → (sum -ℤ unwrap_or high (pos 0)) ≤ℤ pos 0
high_kept None sum some h = absurd (false≢true some)
high_kept (Some high) sum some h = omega (arith, ints, h)

row_kept : (s : Side) (row : Row) (x : List ℤ) → IsSome (side_of s row) → Keeps row x
    → excess_over s (unwrap_or (side_of s row) (pos 0)) (sum_at row.terms x) ≤ℤ pos 0
row_kept Low row x some keeps = low_kept row.low (sum_at row.terms x) some keeps.low
row_kept High row x some keeps = high_kept row.high (sum_at row.terms x) some keeps.high

weighed_down : (w : ℕ) (e : ℤ) → e ≤ℤ pos 0 → (pos w *ℤ e) ≤ℤ pos 0
weighed_down w e h = omega (arith, ints, mul_pos w e (pos 0) h)

-- the weighted excesses of a feasible point are not above 0
none_above : (p : Instance) (us : List Multiplier) (x : List ℤ)
    → ((k : ℕ) → k < length us → HasSide p (multiplier_at us k)) → Feasible p x
    → excesses_at p us x ≤ℤ pos 0
none_above p [] x sides feasible = omega (arith, ints)
none_above p (u ∷ us) x sides feasible =
    let here : HasSide p u = sides 0 (omega arith) in
    let kept : excess_at p u x ≤ℤ pos 0 = row_kept u.side (row_at p u.row) x here.side (feasible.rows u.row here.there) in
    omega (
      arith,
      ints,
      weighed_down u.weight (excess_at p u x) kept,
      none_above p us x (λ k lt. sides (suc k) (omega arith)) feasible,
    )

-- a quotient that is rounded up is at most each number whose product with the divisor is not less
floor_above : (n : ℤ) (d : ℕ) → 0 < d → n <ℤ ((pos d *ℤ int_div_euclid n (pos d)) +ℤ pos d)
floor_above (pos n) d some =
    let e : d * (n / d) + n % d ≡ n = omega arith in
    let k : n % d < d = omega arith in
    omega (arith, ints)
floor_above (negsuc n) d some = let e : d * (n / d) + n % d ≡ n = omega arith in omega (arith, ints)

next_below : (q v : ℤ) → q <ℤ neg_ℤ v → (q +ℤ pos 1) ≤ℤ neg_ℤ v
next_below q v h = omega (arith, ints)

one_more : (q v : ℤ) → q <ℤ v → (q +ℤ pos 1) ≤ℤ v
one_more q v h = omega (arith, ints)

pub up_at_most : (f v : ℤ) (d : ℕ) → 0 < d → f ≤ℤ (pos d *ℤ v) → rounded_up f d ≤ℤ v
up_at_most f v d some h =
    let q : ℤ = int_div_euclid (neg_ℤ f) (pos d) in
    by_lt_z q (neg_ℤ v)
    (λ less. absurd (let k : (pos d *ℤ (q +ℤ pos 1)) ≤ℤ (pos d *ℤ neg_ℤ v) = mul_pos d (q +ℤ pos 1) (neg_ℤ v) (next_below q v less) in
    omega (arith, ints, k, h, mul_add (pos d) q (pos 1), *ℤ-one (pos d), mul_neg_right (pos d) v, floor_above (neg_ℤ f) d some)))
    (λ more. omega (arith, ints, more))

-- one that is rounded down is at least each number whose product with the divisor is not more
pub floor_greatest : (n v : ℤ) (d : ℕ) → 0 < d → (pos d *ℤ v) ≤ℤ n → v ≤ℤ int_div_euclid n (pos d)
floor_greatest n v d some h =
    let q : ℤ = int_div_euclid n (pos d) in
    by_lt_z q v
    (λ less. absurd (let k : (pos d *ℤ (q +ℤ pos 1)) ≤ℤ (pos d *ℤ v) = mul_pos d (q +ℤ pos 1) v (one_more q v less) in
    omega (arith, ints, k, h, mul_add (pos d) q (pos 1), *ℤ-one (pos d), floor_above n d some)))
    (λ more. more)

pub weighted_below : (p : Instance) (m : Multipliers) (x : List ℤ) → AreMultipliers p m → Feasible p x
    → weighted_at p m x ≤ℤ (pos m.d *ℤ value_of p.objective x)
weighted_below p m x are feasible = omega (arith, ints, none_above p m.list x are.sides feasible)

at_most_trans : (a b c : ℤ) → a ≤ℤ b → b ≤ℤ c → a ≤ℤ c
at_most_trans a b c h k = omega (arith, ints)

pub bounds_are_below : BoundsAreBelow
bounds_are_below p area m f are least x inside feasible =
    up_at_most f (value_of p.objective x) m.d are.some
    (at_most_trans f (weighted_at p m x) _ (least.bound x inside) (weighted_below p m x are feasible))

-- a quotient that is rounded down, times the divisor, is at most the number
pub floor_below : (n : ℤ) (d : ℕ) → 0 < d → (pos d *ℤ int_div_euclid n (pos d)) ≤ℤ n
floor_below (pos n) d some = let e : d * (n / d) + n % d ≡ n = omega arith in omega (arith, ints)
floor_below (negsuc n) d some =
    let e : d * (n / d) + n % d ≡ n = omega arith in
    let k : n % d < d = omega arith in
    omega (arith, ints)

-- and one that is rounded up, times the divisor, at least
pub up_above : (f : ℤ) (d : ℕ) → 0 < d → f ≤ℤ (pos d *ℤ rounded_up f d)
up_above f d some =
    omega (
      arith,
      ints,
      mul_neg_right (pos d) (int_div_euclid (neg_ℤ f) (pos d)),
      floor_below (neg_ℤ f) d some,
    )
