-- The rest of an ENDATA line, and where a byte stands.
use Rattle.std.proofs.Common.{◌≡◌, ℕ, ◌+◌, ◌<◌, ◌≤◌, inl, inr, Bool, true, false, List, [], ◌∷◌, ◌++◌, length, drop, cond, ltb, Some, None, refl, sym, ap, ◌∙◌, subst, arith, append_assoc, ⊎_elim}
use Rattle.std.specs.Prelude.{◌==◌, ◌||◌, ◌&&◌, not}
use Rattle.std.specs.List.{position, position_or_len}
use Rattle.std.proofs.lemmas.Bool.{cases_Bool, cond-true, cond-false, false≢true, eqb-true, ltb-false}
use Rattle.std.proofs.lemmas.List.{drop_at}
use borrow.Author.Tests.{ltb-true}
use Rattle.ug_lines.specs.Words.{is_blank, is_word_byte, is_legible}
use Rattle.ug_mps.specs.declared.ending.Tail.{Tail}
use Rattle.ug_mps.specs.declared.ending.Tail.TheVariants as tails
use Rattle.ug_mps.specs.Ending.{begins_legibly, StopsFirst, NoneOf, HasNoFeed, IsUnended}
use Rattle.ug_mps.proofs.Bytes.{false_from, not_true, not_false}
use Rattle.ug_mps.proofs.FirstLines.{line_byte, line_return}

-- ---- the place of a byte

-- the bytes before the first of which the test is true, that one, and the rest
pub record CutAt (test : ℕ → Bool) (bytes : List ℕ) (at : ℕ) : Type 0 where
  pub open_ : List ℕ
  pub byte : ℕ
  pub rest : List ℕ
  pub parts : bytes ≡ open_ ++ byte ∷ rest
  pub none : NoneOf test open_
  pub is : test byte ≡ true
  pub there : length open_ ≡ at

first-yes : (test : ℕ → Bool) (x : ℕ) (xs : List ℕ) → test x ≡ true → position_or_len test (x ∷ xs) ≡ 0
first-yes test x xs e = ap (λ b. cond (not b) (1 + position_or_len test xs) 0) e

first-no : (test : ℕ → Bool) (x : ℕ) (xs : List ℕ) → test x ≡ false → position_or_len test (x ∷ xs) ≡ 1 + position_or_len test xs
first-no test x xs e = ap (λ b. cond (not b) (1 + position_or_len test xs) 0) e

cut_more : (test : ℕ → Bool) (x : ℕ) (xs : List ℕ) (at : ℕ) → test x ≡ false → CutAt test xs at → CutAt test (x ∷ xs) (1 + at)
cut_more test x xs at e c = record {
  open_ = x ∷ c.open_;
  byte = c.byte;
  rest = c.rest;
  parts = ap (λ l. x ∷ l) c.parts;
  none = (e, c.none);
  is = c.is;
  there = omega (arith, c.there);
}

cut_len : (test : ℕ → Bool) (xs : List ℕ) → position_or_len test xs < length xs → CutAt test xs (position_or_len test xs)
cut_len test [] h = absurd (omega arith)
cut_len test (x ∷ xs) h = ⊎_elim
    (λ t. record { open_ = []; byte = x; rest = xs; parts = refl; none = tt; is = t; there = sym (first-yes test x xs t) })
    (λ f. let n : position_or_len test (x ∷ xs) ≡ 1 + position_or_len test xs = first-no test x xs f in
    subst (λ m. CutAt test (x ∷ xs) m) (sym n) (cut_more test x xs (position_or_len test xs) f (cut_len test xs (omega (arith, h, n)))))
    (cases_Bool (test x))

none_len : (test : ℕ → Bool) (xs : List ℕ) → length xs ≤ position_or_len test xs → NoneOf test xs
none_len test [] h = tt
none_len test (x ∷ xs) h = ⊎_elim
    (λ t. absurd (omega (arith, h, first-yes test x xs t)))
    (λ f. (f, none_len test xs (omega (arith, h, first-no test x xs f))))
    (cases_Bool (test x))

pub found_at : (test : ℕ → Bool) (xs : List ℕ) (at : ℕ) → Some at ≡ position test xs → CutAt test xs at
found_at test xs at e =
    elim (cases_Bool (ltb (position_or_len test xs) (length xs))) [
      | inl t ↦
          let s : position test xs ≡ Some (position_or_len test xs) = cond-true (ltb (position_or_len test xs) (length xs)) _ _ t in
          let n : at ≡ position_or_len test xs = cc in
          subst (λ m. CutAt test xs m) (sym n) (cut_len test xs (ltb-true (position_or_len test xs) (length xs) t))
      | inr t ↦
          let s : position test xs ≡ None = cond-false (ltb (position_or_len test xs) (length xs)) _ _ t in
          absurd (let bad : Some at ≡ None = e ∙ s in cc)
    ]

pub found_none : (test : ℕ → Bool) (xs : List ℕ) → None ≡ position test xs → NoneOf test xs
found_none test xs e =
    elim (cases_Bool (ltb (position_or_len test xs) (length xs))) [
      | inl t ↦
          let s : position test xs ≡ Some (position_or_len test xs) = cond-true (ltb (position_or_len test xs) (length xs)) _ _ t in
          absurd (let bad : None ≡ Some (position_or_len test xs) = e ∙ s in cc)
      | inr t ↦ none_len test xs (ltb-false (position_or_len test xs) (length xs) t)
    ]

-- what stands from there on
pub cut_drop : (test : ℕ → Bool) (xs : List ℕ) (at : ℕ) (c : CutAt test xs at) → drop at xs ≡ c.byte ∷ c.rest
cut_drop test xs at c = ap (drop at) c.parts ∙ drop_at c.open_ (c.byte ∷ c.rest) at c.there

pub no_feed_both : (xs ys : List ℕ) → HasNoFeed xs → HasNoFeed ys → HasNoFeed (xs ++ ys)
no_feed_both [] ys p q = q
no_feed_both (x ∷ xs) ys p q = (p.0, no_feed_both xs ys p.1 q)

-- ---- the rest of an ENDATA line

abbrev may : ℕ → Bool
may b = is_blank b || is_word_byte b

may_not : (b c : ℕ) → may c ≡ false → may b ≡ true → (b == c) ≡ false
may_not b c n m = false_from (b == c) (λ e. false≢true (sym n ∙ ap may (sym (eqb-true b c e)) ∙ m))

-- a byte that may be there
legible_byte : (b : ℕ) (bs : List ℕ) → may b ≡ true → begins_legibly (b ∷ bs) ≡ begins_legibly bs
legible_byte b bs m = ap is_legible (line_byte b bs (may_not b 10 refl m) (may_not b 13 refl m)) ∙ ap (λ t. t && begins_legibly bs) m

-- a byte that may not, and ends no line
pub bad_first : (b : ℕ) (bs : List ℕ) → may b ≡ false → (b == 10) ≡ false → (b == 13) ≡ false → begins_legibly (b ∷ bs) ≡ false
bad_first b bs m p q = ap is_legible (line_byte b bs p q) ∙ ap (λ t. t && begins_legibly bs) m

-- a carriage return that no line feed follows
pub bad_return : (b : ℕ) (bs : List ℕ) → (b == 10) ≡ false → begins_legibly (13 ∷ b ∷ bs) ≡ false
bad_return b bs p = ap is_legible (line_return b bs p)

-- bytes that may be there
pub legible_more : (open_ rest : List ℕ) → NoneOf (λ b. not (is_blank b || is_word_byte b)) open_ → begins_legibly (open_ ++ rest) ≡ begins_legibly rest
legible_more [] rest n = refl
legible_more (b ∷ bs) rest n = legible_byte b (bs ++ rest) (not_false (may b) n.0) ∙ legible_more bs rest n.1

pub stop_first : (xs : List ℕ) (at : ℕ) → Some at ≡ position (λ b. not (is_blank b || is_word_byte b)) xs → StopsFirst (drop at xs)
stop_first xs at e =
    let c = found_at (λ b. not (is_blank b || is_word_byte b)) xs at e in
    subst StopsFirst (sym (cut_drop _ xs at c)) (not_true (may c.byte) c.is)

pub stop_legible : (xs more : List ℕ) (at : ℕ) → Some at ≡ position (λ b. not (is_blank b || is_word_byte b)) xs → begins_legibly (xs ++ more) ≡ begins_legibly (drop at xs ++ more)
stop_legible xs more at e =
    let c = found_at (λ b. not (is_blank b || is_word_byte b)) xs at e in
    ap (λ l. begins_legibly (l ++ more)) c.parts
    ∙ ap begins_legibly (append_assoc c.open_ (c.byte ∷ c.rest) more)
    ∙ legible_more c.open_ ((c.byte ∷ c.rest) ++ more) c.none
    ∙ ap (λ l. begins_legibly (l ++ more)) (sym (cut_drop _ xs at c))

-- ---- whether it has its end

may_no_feed : (xs : List ℕ) → NoneOf (λ b. not (is_blank b || is_word_byte b)) xs → HasNoFeed xs
may_no_feed [] n = tt
may_no_feed (x ∷ xs) n = (may_not x 10 refl (not_false (may x) n.0), may_no_feed xs n.1)

-- bytes without a line feed stand before
pub unended_behind : (t : Tail) (xs ys : List ℕ) → HasNoFeed xs → IsUnended t ys → IsUnended t (xs ++ ys)
unended_behind (tails.Open a) xs ys n h = no_feed_both xs ys n h
unended_behind tails.Legible xs ys n h = tt
unended_behind tails.Bad xs ys n h = tt

pub none_unended : (xs : List ℕ) → None ≡ position (λ b. not (is_blank b || is_word_byte b)) xs → HasNoFeed xs
none_unended xs e = may_no_feed xs (found_none _ xs e)

pub stop_unended : (t : Tail) (xs : List ℕ) (at : ℕ) → Some at ≡ position (λ b. not (is_blank b || is_word_byte b)) xs → IsUnended t (drop at xs) → IsUnended t xs
stop_unended t xs at e h =
    let c = found_at (λ b. not (is_blank b || is_word_byte b)) xs at e in
    subst (IsUnended t) (sym c.parts) (unended_behind t c.open_ (c.byte ∷ c.rest) (may_no_feed c.open_ c.none) (subst (IsUnended t) (cut_drop _ xs at c) h))
