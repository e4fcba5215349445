-- The first word of a line.
use Rattle.std.proofs.Common.{◌&&◌, get_or, ◌≡◌, ℕ, ◌+◌, ◌<◌, ◌≤◌, ◌==◌, Bool, true, false, cond, not, List, [], ◌∷◌, length, filter, take, drop, suc, ltb, Some, None, refl, sym, ap, subst, ◌∙◌, arith, inl, inr}
use Rattle.std.specs.List.{position, position_or_len, slice_split, onto_first}
use Rattle.std.proofs.lemmas.Bool.{cases_Bool, cond-true, cond-false, ltb-false}
use Rattle.std.proofs.lemmas.Bool.Decides.{nat_tests}
use Rattle.std.proofs.lemmas.List.Folds.{list_all_more}
use Rattle.std.proofs.lemmas.List.Splits.{slice_split-cons_yes, slice_split-cons_no}
use Rattle.ug_lines.specs.Words.{is_blank, is_legible, is_line_byte, words_of, BeginsWord}

-- ---- the place of the first byte of a kind

first-yes : (test : ℕ → Bool) (x : ℕ) (xs : List ℕ) → test x ≡ true → position_or_len test (x ∷ xs) ≡ 0
first-yes test x xs e = ap (λ b. cond (not b) (1 + position_or_len test xs) 0) e

first-no : (test : ℕ → Bool) (x : ℕ) (xs : List ℕ) → test x ≡ false → position_or_len test (x ∷ xs) ≡ suc (position_or_len test xs)
first-no test x xs e =
    let one : position_or_len test (x ∷ xs) ≡ 1 + position_or_len test xs = ap (λ b. cond (not b) (1 + position_or_len test xs) 0) e in
    one ∙ omega arith

pub place_within : (test : ℕ → Bool) (xs : List ℕ) → position_or_len test xs ≤ length xs
place_within test [] = omega arith
place_within test (x ∷ xs) = elim (cases_Bool (test x)) [
  | inl e ↦ omega (arith, first-yes test x xs e)
  | inr e ↦ omega (arith, first-no test x xs e, place_within test xs)
]

pub at_is : (test : ℕ → Bool) (xs : List ℕ) (at : ℕ) → Some at ≡ position test xs → at ≡ position_or_len test xs
at_is test xs at e =
    elim (cases_Bool (ltb (position_or_len test xs) (length xs))) [
      | inl t ↦ let s : position test xs ≡ Some (position_or_len test xs) = cond-true (ltb (position_or_len test xs) (length xs)) _ _ t in cc
      | inr t ↦ let s : position test xs ≡ None = cond-false (ltb (position_or_len test xs) (length xs)) _ _ t in absurd (let bad : Some at ≡ None = e ∙ s in cc)
    ]

pub none_is : (test : ℕ → Bool) (xs : List ℕ) → None ≡ position test xs → length xs ≡ position_or_len test xs
none_is test xs e =
    elim (cases_Bool (ltb (position_or_len test xs) (length xs))) [
      | inl t ↦ let s : position test xs ≡ Some (position_or_len test xs) = cond-true (ltb (position_or_len test xs) (length xs)) _ _ t in
          absurd (let bad : None ≡ Some (position_or_len test xs) = e ∙ s in cc)
      | inr t ↦ omega (arith, place_within test xs, ltb-false (position_or_len test xs) (length xs) t)
    ]

-- ---- the first word

-- a blank in front counts for nothing
words_behind : (x : ℕ) (xs : List ℕ) → is_blank x ≡ true → words_of (x ∷ xs) ≡ words_of xs
words_behind x xs e = ap (filter (λ word. not (length word == 0))) (slice_split-cons_yes is_blank x xs e)

abbrev blanks : List ℕ → ℕ
blanks xs = position_or_len (λ b. not (is_blank b)) xs

pub skipped : (xs : List ℕ) → words_of (drop (blanks xs) xs) ≡ words_of xs
skipped [] = refl
skipped (x ∷ xs) = elim (cases_Bool (is_blank x)) [
  | inl e ↦ ap (λ n. words_of (drop n (x ∷ xs))) (first-no (λ b. not (is_blank b)) x xs (ap not e)) ∙ (skipped xs ∙ sym (words_behind x xs e))
  | inr e ↦ ap (λ n. words_of (drop n (x ∷ xs))) (first-yes (λ b. not (is_blank b)) x xs (ap not e))
]

pub begins_word : (xs : List ℕ) → BeginsWord (drop (blanks xs) xs)
begins_word [] = tt
begins_word (x ∷ xs) = elim (cases_Bool (is_blank x)) [
  | inl e ↦ subst (λ n. BeginsWord (drop n (x ∷ xs))) (sym (first-no (λ b. not (is_blank b)) x xs (ap not e))) (begins_word xs)
  | inr e ↦ subst (λ n. BeginsWord (drop n (x ∷ xs))) (sym (first-yes (λ b. not (is_blank b)) x xs (ap not e))) e
]

-- the bytes up to the first blank, and the parts behind them
record Parted (xs : List ℕ) : Type 0 where
  more : List (List ℕ)
  parts : slice_split is_blank xs ≡ take (position_or_len is_blank xs) xs ∷ more
  words : filter (λ word. not (length word == 0)) more ≡ words_of (drop (position_or_len is_blank xs) xs)

parted : (xs : List ℕ) → Parted xs
parted [] = record { more = []; parts = refl; words = refl }
parted (x ∷ xs) = elim (cases_Bool (is_blank x)) [
  | inl e ↦
      let n : position_or_len is_blank (x ∷ xs) ≡ 0 = first-yes is_blank x xs e in
      record {
        more = slice_split is_blank xs;
        parts = slice_split-cons_yes is_blank x xs e ∙ ap (λ k. take k (x ∷ xs) ∷ slice_split is_blank xs) (sym n);
        words = sym (words_behind x xs e) ∙ ap (λ k. words_of (drop k (x ∷ xs))) (sym n);
      }
  | inr e ↦
      let n : position_or_len is_blank (x ∷ xs) ≡ suc (position_or_len is_blank xs) = first-no is_blank x xs e in
      let p = parted xs in
      record {
        more = p.more;
        parts = slice_split-cons_no is_blank x xs e ∙ ap (onto_first x) p.parts ∙ ap (λ k. take k (x ∷ xs) ∷ p.more) (sym n);
        words = p.words ∙ ap (λ k. words_of (drop k (x ∷ xs))) (sym n);
      }
]

nonzero : (n : ℕ) → 0 < n → (n == 0) ≡ false
nonzero n h = grind (arith, nat_tests)

filled : (w : List ℕ) (ws : List (List ℕ)) → 0 < length w
    → filter (λ word. not (length word == 0)) (w ∷ ws) ≡ w ∷ filter (λ word. not (length word == 0)) ws
filled w ws h = rw (nonzero (length w) h) refl

-- the first word
pub word_first : (xs : List ℕ) → 0 < length (take (position_or_len is_blank xs) xs)
    → words_of xs ≡ take (position_or_len is_blank xs) xs ∷ words_of (drop (position_or_len is_blank xs) xs)
word_first xs some =
    let p = parted xs in
    ap (filter (λ word. not (length word == 0))) p.parts ∙ filled (take (position_or_len is_blank xs) xs) p.more some
    ∙ ap (λ ws. take (position_or_len is_blank xs) xs ∷ ws) p.words

-- there is none
pub word_none : (xs : List ℕ) → BeginsWord xs → length (take (position_or_len is_blank xs) xs) ≡ 0 → words_of xs ≡ []
word_none [] b e = refl
word_none (x ∷ xs) b e = absurd (omega (arith, sym (ap (λ n. length (take n (x ∷ xs))) (first-no is_blank x xs b)) ∙ e))

-- cut where the first word ends
pub first_is : (xs : List ℕ) (n : ℕ) (word more : List ℕ) → n ≡ position_or_len is_blank xs → word ≡ take n xs → more ≡ drop n xs
    → 0 < length word → words_of xs ≡ word ∷ words_of more
first_is xs n word more p f b some =
    let is : word ≡ take (position_or_len is_blank xs) xs = f ∙ ap (λ k. take k xs) p in
    let left : more ≡ drop (position_or_len is_blank xs) xs = b ∙ ap (λ k. drop k xs) p in
    rw (is, left) (word_first xs (subst (λ w. 0 < length w) is some))

pub none_first : (xs : List ℕ) (n : ℕ) (word : List ℕ) → n ≡ position_or_len is_blank xs → word ≡ take n xs → BeginsWord xs
    → length word ≡ 0 → words_of xs ≡ []
none_first xs n word p f b none = word_none xs b (ap length (sym (f ∙ ap (λ k. take k xs) p)) ∙ none)

-- ---- a test of each byte

-- one byte more
pub all_more : (i : ℕ) (xs : List ℕ) → i < length xs → is_legible (take (i + 1) xs) ≡ (is_legible (take i xs) && is_line_byte (get_or xs i 0))
all_more i xs h = list_all_more is_line_byte xs i 0 h
