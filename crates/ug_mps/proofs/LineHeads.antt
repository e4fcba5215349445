-- What the first bytes of a line show: whether it is ENDATA.
use Rattle.std.proofs.Common.{◌≡◌, ◌≢◌, ℕ, ◌⊎◌, inl, inr, Bool, true, false, List, [], ◌∷◌, ◌++◌, take, drop, refl, sym, ap, ◌∙◌, subst, append_assoc, ⊎_elim}
use Rattle.std.specs.Prelude.{◌==◌, ◌||◌, ◌&&◌, codes, if◌then◌else◌}
use Rattle.std.specs.Str.{bytes_eq}
use Rattle.std.proofs.lemmas.Bool.{false≢true, eqb-true}
use Rattle.std.proofs.lemmas.List.{take-append-drop}
use Rattle.ug_lines.specs.Lines.{content_of, is_line_end}
use Rattle.ug_lines.specs.Words.{is_blank}
use Rattle.ug_mps.specs.declared.ending.Head.{Head}
use Rattle.ug_mps.specs.declared.ending.Head.TheVariants as heads
use Rattle.ug_mps.specs.Faults.{is_word_end, is_end_line}
use Rattle.ug_mps.specs.Ending.{first_piece, first_line, is_feed_first, ends_word, IsHead, IsBehind}
use Rattle.ug_mps.proofs.Bytes.{and_true, false_from, same_bytes}
use Rattle.ug_mps.proofs.FirstLines.{line_front, line_byte, line_return}

or_cases : (a b : Bool) → (a || b) ≡ true → (a ≡ true) ⊎ (b ≡ true)
or_cases true b e = inl refl
or_cases false b e = inr e

by_end : (t : Bool) (b : ℕ) (c : List ℕ) → is_blank b ≡ true → is_word_end (if t then [] else b ∷ c) ≡ true
by_end true b c e = refl
by_end false b c e = e

by_piece : (t : Bool) (b : ℕ) (p : List ℕ) → is_blank b ≡ true → is_word_end (content_of (if t then b ∷ [] else b ∷ p)) ≡ true
by_piece true b p e = by_end (is_line_end (b ∷ [])) b [] e
by_piece false b p e = by_end (is_line_end (b ∷ p)) b (content_of p) e

feed_first : (bs more : List ℕ) → is_feed_first bs ≡ true → is_word_end (first_line (13 ∷ (bs ++ more))) ≡ true
feed_first [] more e = absurd (false≢true e)
feed_first (c ∷ cs) more e = subst (λ x. is_word_end (first_line (13 ∷ (x ∷ (cs ++ more)))) ≡ true) (sym (eqb-true c 10 e)) refl

-- if a word ends whatever follows, it does
pub word_ends : (rest more : List ℕ) → ends_word rest ≡ true → is_word_end (first_line (rest ++ more)) ≡ true
word_ends [] more e = absurd (false≢true e)
word_ends (b ∷ bs) more e = ⊎_elim
    (λ p. by_piece (b == 10) b (first_piece (bs ++ more)) p)
    (λ q. ⊎_elim
    (λ f. subst (λ x. is_word_end (first_line (x ∷ (bs ++ more))) ≡ true) (sym (eqb-true b 10 f)) refl)
    (λ g. let both = and_true (b == 13) (is_feed_first bs) g in
    subst (λ x. is_word_end (first_line (x ∷ (bs ++ more))) ≡ true) (sym (eqb-true b 13 both.0)) (feed_first bs more both.1))
    (or_cases (b == 10) ((b == 13) && is_feed_first bs) q))
    (or_cases (is_blank b) ((b == 10) || ((b == 13) && is_feed_first bs)) e)

-- a byte behind ENDATA that ends no word
pub other_byte : (b : ℕ) (bs more : List ℕ) → is_blank b ≡ false → (b == 10) ≡ false → (b == 13) ≡ false → is_word_end (first_line ((b ∷ bs) ++ more)) ≡ false
other_byte b bs more p q r = ap is_word_end (line_byte b (bs ++ more) q r) ∙ p

-- a carriage return behind it that no line feed follows
pub other_return : (b : ℕ) (bs more : List ℕ) → (b == 10) ≡ false → is_word_end (first_line ((13 ∷ b ∷ bs) ++ more)) ≡ false
other_return b bs more q = ap is_word_end (line_return b (bs ++ more) q)

-- what the bytes behind ENDATA show, its line shows
pub head_behind : (line rest : List ℕ) (r : Head) → line ≡ codes "ENDATA" ++ rest → IsBehind rest r → IsHead line r
head_behind line rest heads.Ends e h = (rest, e, h)
head_behind line rest heads.Other e h = λ more. ap (λ l. is_end_line (first_line (l ++ more))) e ∙ h more
head_behind line rest heads.Open e (more, h) = (more, ap (λ l. codes "ENDATA" ++ l) h ∙ ap (λ l. l ++ more) (sym e))

-- a prefix of ENDATA
pub head_open : (line rest : List ℕ) → codes "ENDATA" ≡ line ++ rest → IsHead line heads.Open
head_open line rest e = (rest ++ 13 ∷ [], ap (λ l. l ++ 13 ∷ []) e ∙ append_assoc line rest (13 ∷ []))

-- of two lists that begin one, the one begins the other
front_of : (xs ys vs ws : List ℕ) → xs ++ ys ≡ vs ++ ws → ((z : List ℕ) × (xs ≡ vs ++ z)) ⊎ ((z : List ℕ) × (vs ≡ xs ++ z))
front_of [] ys vs ws e = inr (vs, refl)
front_of (x ∷ xs) ys [] ws e = inl (x ∷ xs, refl)
front_of (x ∷ xs) ys (v ∷ vs) ws e =
    let head : x ≡ v = cc in
    let tail : xs ++ ys ≡ vs ++ ws = cc in
    elim (front_of xs ys vs ws tail) [
      | inl h ↦ inl (h.0, cc)
      | inr h ↦ inr (h.0, cc)
    ]

-- neither begins with ENDATA nor is a prefix of it
pub head_other : (line : List ℕ) → ((rest : List ℕ) → line ≢ codes "ENDATA" ++ rest) → ((rest : List ℕ) → codes "ENDATA" ≢ line ++ rest) → IsHead line heads.Other
head_other line a b = λ more. false_from (is_end_line (first_line (line ++ more))) (λ e.
    let c : List ℕ = first_line (line ++ more) in
    let word : take 6 c ≡ codes "ENDATA" = same_bytes (take 6 c) (codes "ENDATA") (and_true (bytes_eq (take 6 c) (codes "ENDATA")) (is_word_end (drop 6 c)) e).0 in
    let f = line_front (line ++ more) in
    let whole : line ++ more ≡ codes "ENDATA" ++ (drop 6 c ++ f.0) =
    f.1 ∙ ap (λ l. l ++ f.0) (sym (take-append-drop 6 c) ∙ ap (λ l. l ++ drop 6 c) word) ∙ append_assoc (codes "ENDATA") (drop 6 c) f.0 in
    absurd (elim (front_of line more (codes "ENDATA") (drop 6 c ++ f.0) whole) [
      | inl (z, s) ↦ a z s
      | inr (z, s) ↦ b z s
    ]))
