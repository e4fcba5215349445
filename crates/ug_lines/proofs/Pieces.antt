-- A file cut behind its first line feed.
use Rattle.std.proofs.Common.{◌≡◌, ℕ, ◌+◌, ◌<◌, ◌≤◌, Bool, true, false, cond, not, eqb, ltb, List, [], ◌∷◌, length, take, drop, suc, Some, None, ap, ◌∙◌, arith, inl, inr}
use Rattle.std.specs.List.{position, position_or_len, onto_first}
use Rattle.std.proofs.lemmas.Bool.{cases_Bool, cond-true, cond-false, ltb-false}
use borrow.Author.Tests.{ltb-true}
use Rattle.ug_lines.specs.Lines.{pieces}

abbrev feed : ℕ → Bool
feed b = eqb b 10

pieces-yes : (x : ℕ) (xs : List ℕ) → feed x ≡ true → pieces (x ∷ xs) ≡ (x ∷ []) ∷ pieces xs
pieces-yes x xs e = cond-true (feed x) _ _ e

pieces-no : (x : ℕ) (xs : List ℕ) → feed x ≡ false → pieces (x ∷ xs) ≡ onto_first x (pieces xs)
pieces-no x xs e = cond-false (feed x) _ _ e

first-yes : (x : ℕ) (xs : List ℕ) → feed x ≡ true → position_or_len feed (x ∷ xs) ≡ 0
first-yes x xs e = ap (λ b. cond (not b) (1 + position_or_len feed xs) 0) e

first-no : (x : ℕ) (xs : List ℕ) → feed x ≡ false → position_or_len feed (x ∷ xs) ≡ 1 + position_or_len feed xs
first-no x xs e = ap (λ b. cond (not b) (1 + position_or_len feed xs) 0) e

pieces-cut : (xs : List ℕ) → position_or_len feed xs < length xs
    → pieces xs ≡ take (position_or_len feed xs + 1) xs ∷ pieces (drop (position_or_len feed xs + 1) xs)
pieces-cut [] h = absurd (omega arith)
pieces-cut (x ∷ xs) h = elim (cases_Bool (feed x)) [
  | inl e ↦ rw (first-yes x xs e) (pieces-yes x xs e)
  | inr e ↦
      let n : position_or_len feed (x ∷ xs) ≡ 1 + position_or_len feed xs = first-no x xs e in
      let m : position_or_len feed (x ∷ xs) + 1 ≡ suc (position_or_len feed xs + 1) = omega arith in
      rw m (pieces-no x xs e ∙ ap (onto_first x) (pieces-cut xs (omega arith)))
]

pieces-whole : (x : ℕ) (xs : List ℕ) → length (x ∷ xs) ≤ position_or_len feed (x ∷ xs) → pieces (x ∷ xs) ≡ (x ∷ xs) ∷ []
pieces-whole x [] h = elim (cases_Bool (feed x)) [
  | inl e ↦ absurd (omega (arith, first-yes x [] e))
  | inr e ↦ pieces-no x [] e
]
pieces-whole x (y ∷ ys) h = elim (cases_Bool (feed x)) [
  | inl e ↦ absurd (omega (arith, first-yes x (y ∷ ys) e))
  | inr e ↦ pieces-no x (y ∷ ys) e ∙ ap (onto_first x) (pieces-whole y ys (omega (arith, first-no x (y ∷ ys) e)))
]

-- there is a line feed
pub pieces_some : (xs : List ℕ) (at : ℕ) → Some at ≡ position feed xs → pieces xs ≡ take (at + 1) xs ∷ pieces (drop (at + 1) xs)
pieces_some xs at e =
    elim (cases_Bool (ltb (position_or_len feed xs) (length xs))) [
      | inl t ↦
          let s : position feed xs ≡ Some (position_or_len feed xs) = cond-true (ltb (position_or_len feed xs) (length xs)) _ _ t in
          let n : at ≡ position_or_len feed xs = cc in
          rw n (pieces-cut xs (ltb-true (position_or_len feed xs) (length xs) t))
      | inr t ↦
          let s : position feed xs ≡ None = cond-false (ltb (position_or_len feed xs) (length xs)) _ _ t in
          cc
    ]

-- there is none
pub pieces_none : (xs : List ℕ) → 0 < length xs → None ≡ position feed xs → pieces xs ≡ xs ∷ []
pieces_none [] h e = absurd (omega arith)
pieces_none (x ∷ xs) h e =
    elim (cases_Bool (ltb (position_or_len feed (x ∷ xs)) (length (x ∷ xs)))) [
      | inl t ↦
          let s : position feed (x ∷ xs) ≡ Some (position_or_len feed (x ∷ xs)) = cond-true (ltb (position_or_len feed (x ∷ xs)) (length (x ∷ xs))) _ _ t in
          cc
      | inr t ↦ pieces-whole x xs (ltb-false (position_or_len feed (x ∷ xs)) (length (x ∷ xs)) t)
    ]
