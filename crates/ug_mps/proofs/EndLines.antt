-- Lines that close a file alike: two ENDATA lines, both legible or neither; and two others beyond
-- the limit.
use Rattle.std.proofs.Common.{◌≡◌, ℕ, ◌<◌, Bool, true, false, List, [], ◌∷◌, ◌++◌, length, Option, Some, None, refl, sym, ap, ◌∙◌, arith, ⊎_elim}
use Rattle.std.specs.Prelude.{◌==◌, ◌&&◌, not, filter, codes, nat_lt}
use Rattle.std.specs.List.{slice_split}
use Rattle.std.proofs.lemmas.Bool.{cases_Bool}
use Rattle.std.proofs.lemmas.Bool.Decides.{nat_tests}
use Rattle.ug_lines.specs.declared.section.Section.TheVariants.{Endata}
use Rattle.ug_lines.specs.Lines.{Line}
use Rattle.ug_lines.specs.Words.{is_blank, is_legible, words_of}
use Rattle.ug_drafts.specs.declared.fault.Kind.TheVariants as kinds
use Rattle.ug_mps.specs.Entries.{Entry, header}
use Rattle.ug_mps.specs.Faults.{Complaint, or_fault, fault_where, is_word_end, is_end_line, bad_byte}
use Rattle.ug_mps.specs.Says.{header_fault, words_fault, words_say, line_fault, line_says, is_ended, after_fault, after}
use Rattle.ug_mps.proofs.Outcome.{after_end, after_open, after_bad}
use Rattle.ug_mps.proofs.Closing.{CloseSame}

-- ---- ENDATA

-- a blank splits
blank_split : (b : ℕ) (bs : List ℕ) → is_blank b ≡ true → slice_split is_blank (b ∷ bs) ≡ [] ∷ slice_split is_blank bs
blank_split b bs e = rw e refl

-- the first word of an ENDATA line
end_words : (x : List ℕ) → is_word_end x ≡ true → (ws : List (List ℕ)) × (words_of (codes "ENDATA" ++ x) ≡ codes "ENDATA" ∷ ws)
end_words [] e = ([], refl)
end_words (b ∷ bs) e = (filter (λ word. not (length word == 0)) (slice_split is_blank bs), rw (blank_split b bs e) refl)

-- a line by its parts
abbrev pub line_with : List ℕ → ℕ → Line
line_with content through = record { content = content; through = through }

never : (t u : Bool) → u ≡ true → fault_where kinds.TooLong (t && not u) ≡ None
never true u e = rw e refl
never false u e = refl

-- its fault: a byte, or its section
end_fault_is : (h : List Entry) (n : ℕ) (x : List ℕ) → is_word_end x ≡ true
    → line_fault h (line_with (codes "ENDATA" ++ x) n) ≡ or_fault (bad_byte x) (header_fault h (codes "ENDATA" ∷ []))
end_fault_is h n x e =
    let w = end_words x e in
    ap (λ c. or_fault c (or_fault (bad_byte x) (words_fault h false (words_of (codes "ENDATA" ++ x))))) (never (nat_lt 268435456 n) (is_word_end x) e)
    ∙ ap (λ ws. or_fault (bad_byte x) (words_fault h false ws)) w.1

-- what it says
end_says : (h : List Entry) (m n : ℕ) (x : List ℕ) → is_word_end x ≡ true → line_says h m (line_with (codes "ENDATA" ++ x) n) ≡ header Endata ∷ []
end_says h m n x e = let w = end_words x e in ap (λ ws. words_say h m false ws) w.1

same_after : (h : List Entry) (n : ℕ) (a b : Line) (o : Option Complaint) → line_says h n a ≡ line_says h n b → after_fault h n a o ≡ after_fault h n b o
same_after h n a b None e = ap (λ s. Some (s ++ h)) e
same_after h n a b (Some c) e = refl

after_by : (h : List Entry) (n : ℕ) (a b : Line) → line_fault h a ≡ line_fault h b → line_says h n a ≡ line_says h n b → after h n a ≡ after h n b
after_by h n a b f s = ⊎_elim
    (λ t. after_end h n a t ∙ sym (after_end h n b t))
    (λ o. after_open h n a o ∙ ap (after_fault h n a) f ∙ same_after h n a b (line_fault h b) s ∙ sym (after_open h n b o))
    (cases_Bool (is_ended h))

ends_by : (h g : List Entry) (n : ℕ) (a : Line) (o : Option Complaint) → line_says h n a ≡ header Endata ∷ [] → after_fault h n a o ≡ Some g → is_ended g ≡ true
ends_by h g n a (Some c) s e = cc
ends_by h g n a None s e =
    let is : header Endata ∷ h ≡ g = let whole : Some (header Endata ∷ h) ≡ Some g = ap (λ l. Some (l ++ h)) (sym s) ∙ e in cc in
    ap is_ended (sym is)

ends_with : (h g : List Entry) (n : ℕ) (a : Line) → line_says h n a ≡ header Endata ∷ [] → after h n a ≡ Some g → is_ended g ≡ true
ends_with h g n a s e = ⊎_elim
    (λ t. let bad : None ≡ Some g = sym (after_end h n a t) ∙ e in absurd (cc))
    (λ o. ends_by h g n a (line_fault h a) s (sym (after_open h n a o) ∙ e))
    (cases_Bool (is_ended h))

-- two ENDATA lines, both legible or neither
pub close_end : (m n : ℕ) (x y : List ℕ) → is_word_end x ≡ true → is_word_end y ≡ true → is_legible x ≡ is_legible y
    → CloseSame (line_with (codes "ENDATA" ++ x) m) (line_with (codes "ENDATA" ++ y) n)
close_end m n x y p q l =
    let a : Line = line_with (codes "ENDATA" ++ x) m in
    let b : Line = line_with (codes "ENDATA" ++ y) n in
    let fault : (h : List Entry) → line_fault h a ≡ line_fault h b = λ h.
    end_fault_is h m x p ∙ ap (λ t. or_fault (fault_where kinds.Byte (not t)) (header_fault h (codes "ENDATA" ∷ []))) l ∙ sym (end_fault_is h n y q) in
    record {
      fault = fault;
      same = λ h k. after_by h k a b (fault h) (end_says h k m x p ∙ sym (end_says h k n y q));
      ends = λ h g k e. ends_with h g k a (end_says h k m x p) e;
    }

-- ---- beyond the limit

beyond : (n : ℕ) → 268435456 < n → nat_lt 268435456 n ≡ true
beyond n h = grind (arith, nat_tests)

long_is : (t u : Bool) → t ≡ true → u ≡ false → fault_where kinds.TooLong (t && not u) ≡ Some (record { kind = kinds.TooLong; word = None })
long_is t u p q = rw (p, q) refl

-- the fault of another line beyond the limit
long_fault : (h : List Entry) (a : Line) → 268435456 < a.through → is_end_line a.content ≡ false → line_fault h a ≡ Some (record { kind = kinds.TooLong; word = None })
long_fault h a lt o = rw (long_is (nat_lt 268435456 a.through) (is_end_line a.content) (beyond a.through lt) o) refl

-- two of them
pub close_long : (a b : Line) → 268435456 < a.through → 268435456 < b.through → is_end_line a.content ≡ false → is_end_line b.content ≡ false → CloseSame a b
close_long a b p q c d = record {
  fault = λ h. long_fault h a p c ∙ sym (long_fault h b q d);
  same = λ h n. after_bad h n a _ (long_fault h a p c) ∙ sym (after_bad h n b _ (long_fault h b q d));
  ends = λ h g n e. let bad : None ≡ Some g = sym (after_bad h n a _ (long_fault h a p c)) ∙ e in absurd (cc);
}
