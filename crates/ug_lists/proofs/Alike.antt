-- When two lists are the same.
use Rattle.std.proofs.Common.{◌≡◌, ℕ, ◌<◌, List, [], ◌∷◌, length, slice_get, ap, sym, ◌∙◌, refl, unwrap_or, arith}
use Rattle.std.proofs.lemmas.List.{ext_get_or}
use Rattle.std.proofs.lemmas.Option.{unwrap_or-slice_get}

-- lists of one length that have the same item at each place
pub all_same : {A : Type 0} (a b : List A) → length a ≡ length b
    → ((k : ℕ) → k < length a → slice_get a k ≡ slice_get b k) → a ≡ b
all_same [] [] wide each = refl
all_same [] (_ ∷ _) wide each = grind arith
all_same (x ∷ a) b wide each = ext_get_or x (x ∷ a) b wide (λ k there.
    sym (unwrap_or-slice_get (x ∷ a) k x) ∙ ap (λ found. unwrap_or found x) (each k there) ∙ unwrap_or-slice_get b k x)
