-- Two numbers of which neither is below the other are the same.
use Rattle.std.proofs.Common.{◌≡◌, ℕ, ℤ, ◌<◌, ◌<ℤ◌, refl, arith}
use Rattle.std.specs.Ordering.{int_cmp}
use Rattle.std.proofs.lemmas.Cmp.{int_ranked, by_ranked}

pub same_int : (a b : ℤ) → (a <ℤ b → ⊥) → (b <ℤ a → ⊥) → a ≡ b
same_int a b h k = by_ranked (a <ℤ b) (a ≡ b) (b <ℤ a) (int_cmp a b)
    (int_ranked a b (int_cmp a b) refl)
    (λ e less. absurd (h less)) (λ e same. same) (λ e greater. absurd (k greater))

pub same_nat : (a b : ℕ) → (a < b → ⊥) → (b < a → ⊥) → a ≡ b
same_nat a b h k = omega arith
