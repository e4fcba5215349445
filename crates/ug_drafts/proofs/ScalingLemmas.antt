-- The numbers of a row, scaled.
use Rattle.std.proofs.Common.{◌≡◌, ℕ, ℤ, zero, suc, ◌+◌, ◌<◌, ◌≤◌, ◌^◌, max, Bool, true, false, List, [], ◌∷◌, ◌++◌, length, get_or, take, Some, None, refl, ap, ◌∙◌, arith, ⊎_elim}
use Rattle.std.specs.List.{list_any}
use Rattle.std.proofs.lemmas.Bool.{cases_Bool, or_left, or_right}
use Rattle.std.proofs.lemmas.List.{take_more, length-map, get_or-map}
use Rattle.ug_rows.specs.declared.row.Term.{Term}
use Rattle.ug_rows.specs.Rows.{no_term}
use Rattle.ug_problem.specs.Decimals.{zero_decimal}
use Rattle.ug_problem.specs.Fractions.{places_of, scaled}
use Rattle.ug_drafts.specs.declared.row.Factor.{Factor}
use Rattle.ug_drafts.specs.RowNumbers.{most_places, scaled_term, is_above}
use Rattle.ug_drafts.specs.Made.{below, terms_scaled, are_terms_wide, terms_if}

-- a coefficient that stands for one that is not there
abbrev pub no_factor : Factor
no_factor = record { column = 0; number = zero_decimal }

-- ---- places

most_push : (fs : List Factor) (f : Factor) → most_places (fs ++ f ∷ []) ≡ max (places_of f.number) (most_places fs)
most_push [] f = refl
most_push (g ∷ fs) f = rw (most_push fs f) (omega arith)

pub most_more : (fs : List Factor) (i : ℕ) → i < length fs → most_places (take (i + 1) fs) ≡ max (places_of (get_or fs i no_factor).number) (most_places (take i fs))
most_more fs i h = rw (take_more fs i no_factor h) (most_push (take i fs) (get_or fs i no_factor))

-- no coefficient has more than the most
pub most_at : (fs : List Factor) (i : ℕ) → i < length fs → places_of (get_or fs i no_factor).number ≤ most_places fs
most_at [] i h = absurd (omega (arith, h))
most_at (f ∷ fs) zero h = omega arith
most_at (f ∷ fs) (suc i) h = let rest : places_of (get_or fs i no_factor).number ≤ most_places fs = most_at fs i (omega (arith, h)) in omega (arith, rest)

-- ---- terms

-- the first i coefficients are scaled, and none of them is too wide
pub record AreNarrowSoFar (scale : ℕ) (fs : List Factor) (i : ℕ) (terms : List Term) : Type 0 where
  pub made : terms ≡ terms_scaled scale (take i fs)
  pub narrow : are_terms_wide terms ≡ false

-- a coefficient that is too wide makes the terms too wide
any_at : {X : Type 0} (test : X → Bool) (xs : List X) (i : ℕ) (d : X) → i < length xs → test (get_or xs i d) ≡ true → list_any test xs ≡ true
any_at test [] i d h e = absurd (omega (arith, h))
any_at test (x ∷ xs) zero d h e = or_left (test x) (list_any test xs) e
any_at test (x ∷ xs) (suc i) d h e = or_right (test x) (list_any test xs) (any_at test xs i d (omega (arith, h)) e)

none_below : (limit : ℕ) (z : ℤ) → None ≡ below limit z → is_above limit (Some z) ≡ true
none_below limit z e = ⊎_elim
    (λ t. t)
    (λ f. let bad : None ≡ Some z = rw f at e in absurd (cc))
    (cases_Bool (is_above limit (Some z)))

pub wide_at : (scale : ℕ) (fs : List Factor) (i : ℕ) → i < length fs → None ≡ below (10 ^ 24) (scaled scale (get_or fs i no_factor).number) → None ≡ terms_if scale fs
wide_at scale fs i h e =
    let test : Term → Bool = λ t. is_above (10 ^ 24) (Some t.factor) in
    let term : get_or (terms_scaled scale fs) i no_term ≡ scaled_term scale (get_or fs i no_factor) = get_or-map (scaled_term scale) fs i no_factor no_term h in
    let wide : are_terms_wide (terms_scaled scale fs) ≡ true =
    any_at test (terms_scaled scale fs) i no_term (omega (arith, h, length-map fs (scaled_term scale))) (ap test term ∙ none_below (10 ^ 24) (scaled scale (get_or fs i no_factor).number) e) in
    rw wide refl
