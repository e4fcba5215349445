-- Half of a sum, rounded down.
use Rattle.std.proofs.Common.{◌≡◌, ℤ, pos, negsuc, ◌+ℤ◌, ◌*ℤ◌, ◌≤ℤ◌, ◌<ℤ◌, sym, subst, arith}
use Rattle.std.proofs.lemmas.Int.{ints}
use Rattle.std.specs.Int.{int_div_euclid}

low_part : (s : ℤ) → (pos 2 *ℤ int_div_euclid s (pos 2)) ≤ℤ s
low_part (pos a) = omega (arith, ints)
low_part (negsuc a) = omega (arith, ints)

high_part : (s : ℤ) → s <ℤ ((pos 2 *ℤ int_div_euclid s (pos 2)) +ℤ pos 2)
high_part (pos a) = omega (arith, ints)
high_part (negsuc a) = omega (arith, ints)

pub half_low : (half s : ℤ) → half ≡ int_div_euclid s (pos 2) → (pos 2 *ℤ half) ≤ℤ s
half_low half s e = subst (λ (h : ℤ). (pos 2 *ℤ h) ≤ℤ s) (sym e) (low_part s)

pub half_high : (half s : ℤ) → half ≡ int_div_euclid s (pos 2) → s <ℤ ((pos 2 *ℤ half) +ℤ pos 2)
half_high half s e = subst (λ (h : ℤ). s <ℤ ((pos 2 *ℤ h) +ℤ pos 2)) (sym e) (high_part s)
