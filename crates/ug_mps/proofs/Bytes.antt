-- Tests on names and on lists of names.
use Rattle.std.proofs.Common.{◌≡◌, ℕ, zero, suc, ◌&&◌, ◌||◌, not, Bool, true, false, List, [], ◌∷◌, ◌++◌, map, Contains, sym, refl, ap, ◌∙◌, arith, ⊎_elim}
use Rattle.std.specs.Cmp.Lexicographic.{bytes_decides}
use Rattle.std.specs.List.{list_any}
use Rattle.std.specs.Str.{bytes_eq}
use Rattle.std.proofs.lemmas.Bool.{cases_Bool, false≢true}
use Rattle.ug_mps.specs.Names.{StandsAt}
use Rattle.ug_mps.specs.History.{RowNamed}
use Rattle.ug_mps.specs.Rows.{is_named}
use Rattle.ug_mps.proofs.NamesLemmas.{contains_at, at_contains}

pub or_true : (a b : Bool) → b ≡ true → (a || b) ≡ true
or_true true b e = refl
or_true false b e = e

pub or_left : (a b : Bool) → a ≡ true → (a || b) ≡ true
or_left a b e = rw e refl

pub or_false : (a b : Bool) → (a || b) ≡ false → (a ≡ false) × (b ≡ false)
or_false true b e = absurd (false≢true (sym e))
or_false false b e = (refl, e)

pub and_true : (a b : Bool) → (a && b) ≡ true → (a ≡ true) × (b ≡ true)
and_true true b e = (refl, e)
and_true false b e = absurd (false≢true e)

pub both : (a b : Bool) → a ≡ true → b ≡ true → (a && b) ≡ true
both a b p q = rw (p, q) refl

pub not_first : (a b : Bool) → a ≡ false → (a && b) ≡ false
not_first a b p = rw p refl

pub not_second : (a b : Bool) → b ≡ false → (a && b) ≡ false
not_second true b p = p
not_second false b p = refl

pub not_true : (a : Bool) → not a ≡ true → a ≡ false
not_true true e = absurd (false≢true e)
not_true false e = refl

pub false_from : (a : Bool) → (a ≡ true → ⊥) → a ≡ false
false_from true f = absurd (f refl)
false_from false f = refl

pub same_bytes : (a b : List ℕ) → bytes_eq a b ≡ true → a ≡ b
same_bytes a b e = (bytes_decides a b).0 e

pub bytes_same : (a b : List ℕ) → a ≡ b → bytes_eq a b ≡ true
bytes_same a b e = (bytes_decides a b).1 e

pub bytes_apart : (a b : List ℕ) → (a ≡ b → ⊥) → bytes_eq a b ≡ false
bytes_apart a b f = false_from (bytes_eq a b) (λ e. f (same_bytes a b e))

pub apart_bytes : (a b : List ℕ) → bytes_eq a b ≡ false → a ≡ b → ⊥
apart_bytes a b n e = false≢true (sym n ∙ bytes_same a b e)

pub bytes_turn : (a b : List ℕ) → bytes_eq a b ≡ false → bytes_eq b a ≡ false
bytes_turn a b n = bytes_apart b a (λ e. apart_bytes a b n (sym e))

pub any_append : {X : Type 0} (test : X → Bool) (xs ys : List X) → list_any test (xs ++ ys) ≡ (list_any test xs || list_any test ys)
any_append test [] ys = refl
any_append test (x ∷ xs) ys = elim (test x) as (λ b. (b || list_any test (xs ++ ys)) ≡ ((b || list_any test xs) || list_any test ys)) [ true ↦ refl | false ↦ any_append test xs ys ]

pub any_push : {X : Type 0} (test : X → Bool) (xs : List X) (y : X) → list_any test (xs ++ y ∷ []) ≡ (list_any test xs || (test y || false))
any_push test xs y = any_append test xs (y ∷ [])

-- a name that is at a place is among the names, and no other is
pub any_true : (names : List (List ℕ)) (name : List ℕ) (j : ℕ) → StandsAt names name j → list_any (λ n. bytes_eq name n) names ≡ true
any_true [] name j h = absurd (omega (arith, h.there))
any_true (n ∷ ns) name zero h = or_left (bytes_eq name n) (list_any (λ n. bytes_eq name n) ns) (bytes_same name n (sym h.same))
any_true (n ∷ ns) name (suc j) h = or_true (bytes_eq name n) (list_any (λ n. bytes_eq name n) ns) (any_true ns name j (record { there = omega (arith, h.there); same = h.same }))

pub any_stands : (names : List (List ℕ)) (name : List ℕ) → list_any (λ n. bytes_eq name n) names ≡ true → (j : ℕ) × StandsAt names name j
any_stands [] name e = absurd (false≢true e)
any_stands (n ∷ ns) name e = ⊎_elim
    (λ t. (0, record { there = omega arith; same = sym (same_bytes name n t) }))
    (λ f. let rest : list_any (λ n. bytes_eq name n) ns ≡ true = rw f at e in
    let at = any_stands ns name rest in (suc at.0, record { there = omega (arith, at.1.there); same = at.1.same }))
    (cases_Bool (bytes_eq name n))

pub any_none : (names : List (List ℕ)) (name : List ℕ) → ¬ Contains names name → list_any (λ n. bytes_eq name n) names ≡ false
any_none names name h = false_from (list_any (λ n. bytes_eq name n) names) (λ e. let at = any_stands names name e in h (contains_at names name at.0 at.1))

pub none_any : (names : List (List ℕ)) (name : List ℕ) → list_any (λ n. bytes_eq name n) names ≡ false → ¬ Contains names name
none_any names name e h = false≢true (sym e ∙ any_true names name h.0 (at_contains names name h))

-- the rows' names
pub named_any : (rows : List RowNamed) (name : List ℕ) → list_any (λ n. bytes_eq name n) (map (λ (r : RowNamed). r.name) rows) ≡ is_named rows name
named_any [] name = refl
named_any (r ∷ rows) name = ap (λ b. bytes_eq name r.name || b) (named_any rows name)

pub not_false : (a : Bool) → not a ≡ false → a ≡ true
not_false true e = refl
not_false false e = absurd (false≢true (sym e))

pub no_or : (a b : Bool) → a ≡ false → b ≡ false → (a || b) ≡ false
no_or a b p q = rw (p, q) refl
