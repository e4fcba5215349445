-- What went between a coordinator and its ranks, one behind another.
use Rattle.std.proofs.Common.{◌≡◌, ◌≢◌, eqb, ℕ, Bool, true, false, List, [], ◌∷◌, ◌++◌, refl, ap, ◌∙◌}
use Rattle.std.proofs.lemmas.Bool.{eq-eqb, ne_eqb}
use Rattle.ug_io.specs.declared.crew.Exchange.{Exchange}
use Rattle.ug_io.specs.declared.crew.Exchange.TheVariants.{Heard, Told, Gone}
use Rattle.ug_io.specs.Crews.{heard_from, told_to}
use Rattle.ug_serve.specs.Worked.{heard_at, told_at, with}

with_on : (b : Bool) (byte : ℕ) (xs ys : List ℕ) → with b byte (xs ++ ys) ≡ with b byte xs ++ ys
with_on true byte xs ys = refl
with_on false byte xs ys = refl

pub told_at_on : (rank : ℕ) (xs ys : List Exchange) → told_at rank (xs ++ ys) ≡ told_at rank xs ++ told_at rank ys
told_at_on rank [] ys = refl
told_at_on rank (Heard other byte ∷ xs) ys = told_at_on rank xs ys
told_at_on rank (Told other byte ∷ xs) ys =
    ap (with (eqb other rank) byte) (told_at_on rank xs ys)
    ∙ with_on (eqb other rank) byte (told_at rank xs) (told_at rank ys)
told_at_on rank (Gone other ∷ xs) ys = told_at_on rank xs ys

pub heard_at_on : (rank : ℕ) (xs ys : List Exchange) → heard_at rank (xs ++ ys) ≡ heard_at rank xs ++ heard_at rank ys
heard_at_on rank [] ys = refl
heard_at_on rank (Heard other byte ∷ xs) ys =
    ap (with (eqb other rank) byte) (heard_at_on rank xs ys)
    ∙ with_on (eqb other rank) byte (heard_at rank xs) (heard_at rank ys)
heard_at_on rank (Told other byte ∷ xs) ys = heard_at_on rank xs ys
heard_at_on rank (Gone other ∷ xs) ys = heard_at_on rank xs ys

-- ---- what goes to a rank, and comes from it

pub told_its : (rank : ℕ) (bytes : List ℕ) → told_at rank (told_to rank bytes) ≡ bytes
told_its rank [] = refl
told_its rank (byte ∷ bytes) =
    ap (λ (b : Bool). with b byte (told_at rank (told_to rank bytes))) (eq-eqb rank rank refl)
    ∙ ap (λ (rest : List ℕ). byte ∷ rest) (told_its rank bytes)

pub told_others : (rank other : ℕ) (bytes : List ℕ) → other ≢ rank → told_at rank (told_to other bytes) ≡ []
told_others rank other [] apart = refl
told_others rank other (byte ∷ bytes) apart =
    ap (λ (b : Bool). with b byte (told_at rank (told_to other bytes))) (ne_eqb other rank apart)
    ∙ told_others rank other bytes apart

pub told_heard : (rank other : ℕ) (bytes : List ℕ) → told_at rank (heard_from other bytes) ≡ []
told_heard rank other [] = refl
told_heard rank other (byte ∷ bytes) = told_heard rank other bytes

pub heard_its : (rank : ℕ) (bytes : List ℕ) → heard_at rank (heard_from rank bytes) ≡ bytes
heard_its rank [] = refl
heard_its rank (byte ∷ bytes) =
    ap (λ (b : Bool). with b byte (heard_at rank (heard_from rank bytes))) (eq-eqb rank rank refl)
    ∙ ap (λ (rest : List ℕ). byte ∷ rest) (heard_its rank bytes)

pub heard_others : (rank other : ℕ) (bytes : List ℕ) → other ≢ rank → heard_at rank (heard_from other bytes) ≡ []
heard_others rank other [] apart = refl
heard_others rank other (byte ∷ bytes) apart =
    ap (λ (b : Bool). with b byte (heard_at rank (heard_from other bytes))) (ne_eqb other rank apart)
    ∙ heard_others rank other bytes apart

pub heard_told : (rank other : ℕ) (bytes : List ℕ) → heard_at rank (told_to other bytes) ≡ []
heard_told rank other [] = refl
heard_told rank other (byte ∷ bytes) = heard_told rank other bytes

append_none : (xs : List ℕ) → xs ++ [] ≡ xs
append_none [] = refl
append_none (x ∷ xs) = ap (λ (rest : List ℕ). x ∷ rest) (append_none xs)

-- behind what has nothing for the rank, all is as it was
pub told_by : (rank : ℕ) (said more : List Exchange) (bytes : List ℕ) → told_at rank more ≡ bytes
    → told_at rank (said ++ more) ≡ told_at rank said ++ bytes
told_by rank said more bytes its =
    told_at_on rank said more ∙ ap (λ (b : List ℕ). told_at rank said ++ b) its

pub heard_by : (rank : ℕ) (said more : List Exchange) (bytes : List ℕ) → heard_at rank more ≡ bytes
    → heard_at rank (said ++ more) ≡ heard_at rank said ++ bytes
heard_by rank said more bytes its =
    heard_at_on rank said more ∙ ap (λ (b : List ℕ). heard_at rank said ++ b) its

pub told_same : (rank : ℕ) (said more : List Exchange) → told_at rank more ≡ []
    → told_at rank (said ++ more) ≡ told_at rank said
told_same rank said more none = told_by rank said more [] none ∙ append_none (told_at rank said)

pub heard_same : (rank : ℕ) (said more : List Exchange) → heard_at rank more ≡ []
    → heard_at rank (said ++ more) ≡ heard_at rank said
heard_same rank said more none = heard_by rank said more [] none ∙ append_none (heard_at rank said)
