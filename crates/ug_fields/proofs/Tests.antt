-- What a test says that was passed, or not.
use Rattle.std.proofs.Common.{◌≡◌, ℕ, ℤ, Bool, true, false, T, cond, Ok, Err, refl}
use Rattle.std.specs.Prelude.{◌&&◌, ◌≤ℤ◌, int_le}
use Rattle.std.proofs.lemmas.Float.{T_from_true}
use Rattle.ug_fields.proofs.Takes.{ok_is}

pub both_true : (a b : Bool) → (a && b) ≡ true → (a ≡ true) × (b ≡ true)
both_true true true e = (refl, refl)
both_true true false e = absurd cc
both_true false b e = absurd cc

pub and_true : (a b : Bool) → a ≡ true → b ≡ true → (a && b) ≡ true
and_true a b p q = rw (p, q) refl

-- two tests that were passed, or not
pub passed : {A : Type 0} → (b t : Bool) (d : ℕ) (x y : A)
    → cond b (Err d) (cond t (Ok x) (Err d)) ≡ Ok y → (b ≡ false) × (t ≡ true) × (x ≡ y)
passed true t d x y e = absurd cc
passed false true d x y e = (refl, refl, ok_is x y e)
passed false false d x y e = absurd cc

pub stopped : {A : Type 0} → (b t : Bool) (d left : ℕ) (x : A)
    → cond b (Err d) (cond t (Ok x) (Err d)) ≡ Err left → d ≡ left
stopped true t d left x e = cc
stopped false true d left x e = absurd cc
stopped false false d left x e = cc

pub single : {A : Type 0} → (t : Bool) (d : ℕ) (x y : A) → cond t (Ok x) (Err d) ≡ Ok y
    → (t ≡ true) × (x ≡ y)
single true d x y e = (refl, ok_is x y e)
single false d x y e = absurd cc

pub single_stops : {A : Type 0} → (t : Bool) (d left : ℕ) (x : A) → cond t (Ok x) (Err d) ≡ Err left
    → d ≡ left
single_stops true d left x e = absurd cc
single_stops false d left x e = cc

true_from_T : (b : Bool) → T b → b ≡ true
true_from_T true t = refl
true_from_T false t = absurd t

pub le_tells : (a b : ℤ) → int_le a b ≡ true → a ≤ℤ b
le_tells a b e = record { le = T_from_true (int_le a b) e }

pub le_told : (a b : ℤ) → a ≤ℤ b → int_le a b ≡ true
le_told a b h = true_from_T (int_le a b) h.le
