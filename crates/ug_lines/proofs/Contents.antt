-- Pieces without their ends.
use Rattle.std.proofs.Common.{◌≡◌, ◌≢◌, ℕ, List, [], ◌∷◌, ◌++◌, length, length-append, refl, sym, ap, ◌∙◌, arith, inl, inr, ◌||◌, Option, Some, None, MatchOption, unwrap_or, Bor}
use Rattle.std.specs.Str.{bytes_eq}
use Rattle.std.proofs.lemmas.Bool.{cases_Bool, cond-false}
use Rattle.std.proofs.lemmas.Slice.Eq.{bytes_eq-Decides}
use Rattle.ug_lines.specs.Lines.{is_line_end, content_of}

content_step : (x : ℕ) (xs : List ℕ) → x ∷ xs ≢ 10 ∷ [] → x ∷ xs ≢ 13 ∷ 10 ∷ [] → content_of (x ∷ xs) ≡ x ∷ content_of xs
content_step x xs h k =
    elim (cases_Bool (bytes_eq (x ∷ xs) (10 ∷ []))) [
      | inl e ↦ absurd (h ((bytes_eq-Decides (x ∷ xs) (10 ∷ [])).0 e))
      | inr e ↦ elim (cases_Bool (bytes_eq (x ∷ xs) (13 ∷ 10 ∷ []))) [
        | inl f ↦ absurd (k ((bytes_eq-Decides (x ∷ xs) (13 ∷ 10 ∷ [])).0 f))
        | inr f ↦ cond-false (is_line_end (x ∷ xs)) _ _ (ap (λ b. b || bytes_eq (x ∷ xs) (13 ∷ 10 ∷ [])) e ∙ f)
      ]
    ]

-- no line end
pub content_open : (xs : List ℕ) → ((front : List ℕ) → xs ≢ front ++ 10 ∷ []) → content_of xs ≡ xs
content_open [] h = refl
content_open (x ∷ xs) h =
    content_step x xs (h []) (h (13 ∷ [])) ∙ ap (λ ys. x ∷ ys) (content_open xs (λ front e. h (x ∷ front) (ap (λ ys. x ∷ ys) e)))

long : (x y : ℕ) (xs ys : List ℕ) → x ∷ (xs ++ y ∷ []) ≢ 10 ∷ []
long x y xs ys e = omega (arith, ap length e, length-append xs (y ∷ []))

only : (xs : List ℕ) → xs ++ 10 ∷ [] ≡ 10 ∷ [] → xs ≡ []
only [] e = refl
only (x ∷ xs) e = absurd (omega (arith, ap length e, length-append xs (10 ∷ [])))

-- a line feed with no carriage return before it
pub content_feed : (xs : List ℕ) → ((front : List ℕ) → xs ≢ front ++ 13 ∷ []) → content_of (xs ++ 10 ∷ []) ≡ xs
content_feed [] h = refl
content_feed (x ∷ xs) h =
    content_step x (xs ++ 10 ∷ []) (long x 10 xs []) (λ e. let t : xs ++ 10 ∷ [] ≡ 10 ∷ [] = cc in let n : xs ≡ [] = only xs t in h [] cc)
    ∙ ap (λ ys. x ∷ ys) (content_feed xs (λ front e. h (x ∷ front) (ap (λ ys. x ∷ ys) e)))

-- a carriage return and a line feed
pub content_return : (xs : List ℕ) → content_of ((xs ++ 13 ∷ []) ++ 10 ∷ []) ≡ xs
content_return [] = refl
content_return (x ∷ xs) =
    content_step x ((xs ++ 13 ∷ []) ++ 10 ∷ [])
    (λ e. omega (arith, ap length e, length-append (xs ++ 13 ∷ []) (10 ∷ [])))
    (λ e. omega (arith, ap length e, length-append (xs ++ 13 ∷ []) (10 ∷ []), length-append xs (13 ∷ [])))
    ∙ ap (λ ys. x ∷ ys) (content_return xs)

-- a piece that ends with a line feed, by what stands before a carriage return
pub content_is : (piece : List ℕ) (line : Bor (List ℕ)) (before : Option (Bor (List ℕ))) → piece ≡ line.now ++ 10 ∷ []
    → MatchOption before ((front : List ℕ) → line.now ≢ front ++ 13 ∷ []) (λ x. line.now ≡ x.now ++ 13 ∷ [])
    → (unwrap_or before line).now ≡ content_of piece
content_is piece line None e h = rw e (sym (content_feed line.now h))
content_is piece line (Some x) e h = rw (e, h) (sym (content_return x.now))
