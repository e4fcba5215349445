-- Lists in parts.
use Rattle.std.proofs.Common.{◌≡◌, ℕ, zero, suc, List, [], ◌∷◌, ◌++◌, length, refl, ◌∙◌, arith, append_assoc}
use Rattle.std.specs.List.{All}

pub head_of : {X : Type 0} → (P : X → Type 0) (x : X) (xs : List X) → All P (x ∷ xs) → P x
head_of P x xs all = all zero x (omega arith)

pub tail_of : {X : Type 0} → (P : X → Type 0) (x : X) (xs : List X) → All P (x ∷ xs) → All P xs
tail_of P x xs all = λ k d here. all (suc k) d (omega (arith, here))

pub nothing : {X : Type 0} → (xs : List X) → length xs ≡ 0 → xs ≡ []
nothing [] size = refl
nothing (x ∷ xs) size = absurd (omega (arith, size))

-- a part is set apart from what follows it
pub two : (a b r : List ℕ) → a ++ b ++ r ≡ a ++ (b ++ r)
two a b r = append_assoc a b r

pub three : (a b c r : List ℕ) → a ++ b ++ c ++ r ≡ a ++ (b ++ (c ++ r))
three a b c r = append_assoc (a ++ b) c r ∙ two a b (c ++ r)

pub four : (a b c d r : List ℕ) → a ++ b ++ c ++ d ++ r ≡ a ++ (b ++ (c ++ (d ++ r)))
four a b c d r = append_assoc (a ++ b ++ c) d r ∙ three a b c (d ++ r)

pub five : (a b c d e r : List ℕ) → a ++ b ++ c ++ d ++ e ++ r ≡ a ++ (b ++ (c ++ (d ++ (e ++ r))))
five a b c d e r = append_assoc (a ++ b ++ c ++ d) e r ∙ four a b c d (e ++ r)
