-- The bytes that went over a link, one behind another.
use Rattle.std.proofs.Common.{◌≡◌, ℕ, List, [], ◌∷◌, ◌++◌, refl, ap, ◌∙◌}
use Rattle.ug_io.specs.declared.link.Said.{Said}
use Rattle.ug_io.specs.declared.link.Said.TheVariants.{Heard, Told}
use Rattle.ug_io.specs.Links.{heard, told}
use Rattle.ug_serve.specs.LinkBytes.{heard_in, told_in}

heard_in_on : (xs ys : List Said) → heard_in (xs ++ ys) ≡ heard_in xs ++ heard_in ys
heard_in_on [] ys = refl
heard_in_on (Heard byte ∷ xs) ys = ap (λ (bytes : List ℕ). byte ∷ bytes) (heard_in_on xs ys)
heard_in_on (Told byte ∷ xs) ys = heard_in_on xs ys

told_in_on : (xs ys : List Said) → told_in (xs ++ ys) ≡ told_in xs ++ told_in ys
told_in_on [] ys = refl
told_in_on (Heard byte ∷ xs) ys = told_in_on xs ys
told_in_on (Told byte ∷ xs) ys = ap (λ (bytes : List ℕ). byte ∷ bytes) (told_in_on xs ys)

heard_in_heard : (bytes : List ℕ) → heard_in (heard bytes) ≡ bytes
heard_in_heard [] = refl
heard_in_heard (byte ∷ bytes) = ap (λ (rest : List ℕ). byte ∷ rest) (heard_in_heard bytes)

heard_in_told : (bytes : List ℕ) → heard_in (told bytes) ≡ []
heard_in_told [] = refl
heard_in_told (byte ∷ bytes) = heard_in_told bytes

told_in_told : (bytes : List ℕ) → told_in (told bytes) ≡ bytes
told_in_told [] = refl
told_in_told (byte ∷ bytes) = ap (λ (rest : List ℕ). byte ∷ rest) (told_in_told bytes)

told_in_heard : (bytes : List ℕ) → told_in (heard bytes) ≡ []
told_in_heard [] = refl
told_in_heard (byte ∷ bytes) = told_in_heard bytes

append_none : (xs : List ℕ) → xs ++ [] ≡ xs
append_none [] = refl
append_none (x ∷ xs) = ap (λ (rest : List ℕ). x ∷ rest) (append_none xs)

-- behind bytes that were received, and behind bytes that were sent
pub heard_more : (said : List Said) (bytes : List ℕ) → heard_in (said ++ heard bytes) ≡ heard_in said ++ bytes
heard_more said bytes = heard_in_on said (heard bytes) ∙ ap (λ (b : List ℕ). heard_in said ++ b) (heard_in_heard bytes)

pub heard_still : (said : List Said) (bytes : List ℕ) → heard_in (said ++ told bytes) ≡ heard_in said
heard_still said bytes =
    heard_in_on said (told bytes) ∙ ap (λ (b : List ℕ). heard_in said ++ b) (heard_in_told bytes)
    ∙ append_none (heard_in said)

pub told_more : (said : List Said) (bytes : List ℕ) → told_in (said ++ told bytes) ≡ told_in said ++ bytes
told_more said bytes = told_in_on said (told bytes) ∙ ap (λ (b : List ℕ). told_in said ++ b) (told_in_told bytes)

pub told_still : (said : List Said) (bytes : List ℕ) → told_in (said ++ heard bytes) ≡ told_in said
told_still said bytes =
    told_in_on said (heard bytes) ∙ ap (λ (b : List ℕ). told_in said ++ b) (told_in_heard bytes)
    ∙ append_none (told_in said)
