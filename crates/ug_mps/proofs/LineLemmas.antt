-- What a line's words do to the draft.
use Rattle.std.proofs.Common.{◌≡◌, ℕ, ◌<◌, ◌≤◌, ◌==◌, ◌&&◌, ◌||◌, not, cond, Bool, true, false, List, [], ◌∷◌, ◌++◌, length, filter, take, zero, suc, sym, Option, Some, None, Result, MatchResult, nat_le, refl, ap, subst, ◌∙◌, arith, inl, inr}
use Rattle.std.specs.Prelude.{option_and_then, codes, if◌then◌else◌, ⊤}
use Rattle.std.specs.List.{AllByRecursion, list_all, slice_split, onto_first}
use Rattle.std.specs.Option.{option_map}
use Rattle.std.specs.Str.{bytes_eq}
use Rattle.std.proofs.lemmas.Bool.{leb-true, cases_lt}
use Rattle.std.proofs.lemmas.Bool.Decides.{nat_tests}
use Rattle.std.proofs.lemmas.List.Elements.{All-from_recursion}
use Rattle.ug_lines.specs.declared.section.Section.{Section}
use Rattle.ug_lines.specs.declared.section.Section.TheVariants.{Name, Objsense, Rows, Columns, Rhs, Ranges, Bounds, Endata}
use Rattle.ug_lines.specs.declared.kinds.BoundKind.{BoundKind}
use Rattle.ug_lines.specs.Words.{is_blank, is_word_byte, is_legible, words_of, are_short, is_data, is_comment}
use Rattle.ug_lines.specs.Lines.{Line}
use Rattle.ug_lines.specs.Kinds.{section_of_word, bound_kind_of, takes_number}
use Rattle.ug_lines.specs.Shapes.{Shape, sense_of, row_of, pairs_of, column_of, coefficients_of, sides_of, numbered_bound_of, bare_bound_of, bound_of_kind, bound_of, shape_of}
use Rattle.ug_lines.specs.Shapes as shapes
use Rattle.ug_problem.specs.Instances.{IsName, IsWordByte}
use Rattle.ug_drafts.specs.declared.fault.MpsError.{MpsError}
use Rattle.ug_drafts.specs.declared.fault.Kind.TheVariants as kinds
use Rattle.ug_mps.specs.declared.draft.Draft.{Draft}
use Rattle.ug_mps.specs.Entries.{Entry}
use Rattle.ug_mps.specs.Faults.{Complaint, or_fault, too_long, shape_in, fault_where, may_follow, bad_section, bad_words, semi_continuous, bad_bound_kind}
use Rattle.ug_mps.specs.Says.{data_fault, formed_fault, formed_says, words_fault, words_say, section_says, line_fault, line_says}
use Rattle.ug_mps.specs.History.{section_of}
use Rattle.ug_mps.specs.Drafts.{Drafts, IsFaultOf, shaped_fault, shaped_says, belongs, IsWorded}
use Rattle.ug_mps.specs.Taking.{AreWords, IsFirst}
use Rattle.ug_mps.proofs.Bytes.{and_true}

-- ---- words of a legible line

-- each part has bytes of words alone
abbrev AreParts : List (List ℕ) → Type 0
AreParts [] = Unit {0}
AreParts (w ∷ ws) = (list_all is_word_byte w ≡ true) × AreParts ws

by_test : (s t : Bool) → (s || t) ≡ true → s ≡ false → t ≡ true
by_test true t h n = cc
by_test false t h n = h

both_true : (s t : Bool) → s ≡ true → t ≡ true → (s && t) ≡ true
both_true true t p q = q
both_true false t p q = cc

parts_onto : (b : ℕ) (ws : List (List ℕ)) → is_word_byte b ≡ true → AreParts ws → AreParts (onto_first b ws)
parts_onto b [] h p = (both_true (is_word_byte b) true h refl, tt)
parts_onto b (w ∷ ws) h p = (both_true (is_word_byte b) (list_all is_word_byte w) h p.0, p.1)

parts_choice : (t : Bool) (b : ℕ) (ws : List (List ℕ)) → (t ≡ false → is_word_byte b ≡ true) → AreParts ws → AreParts (cond t ([] ∷ ws) (onto_first b ws))
parts_choice true b ws n p = (refl, p)
parts_choice false b ws n p = parts_onto b ws (n refl) p

parts_legible : (line : List ℕ) → is_legible line ≡ true → AreParts (slice_split is_blank line)
parts_legible [] h = (refl, tt)
parts_legible (b ∷ bs) h =
    let h' = and_true (is_blank b || is_word_byte b) (is_legible bs) h in
    parts_choice (is_blank b) b (slice_split is_blank bs) (λ n. by_test (is_blank b) (is_word_byte b) h'.0 n) (parts_legible bs h'.1)

words_choice : (t : Bool) (w : List ℕ) (ws : List (List ℕ)) → (length w == 0) ≡ t → list_all is_word_byte w ≡ true → AreWords ws → AreWords (if not t then w ∷ ws else ws)
words_choice true w ws e p k = k
words_choice false w ws e p k = ((p, e), k)

words_of_parts : (ws : List (List ℕ)) → AreParts ws → AreWords (filter (λ word. not (length word == 0)) ws)
words_of_parts [] p = tt
words_of_parts (w ∷ ws) p = words_choice (length w == 0) w (filter (λ word. not (length word == 0)) ws) refl p.0 (words_of_parts ws p.1)

-- the words of a legible line
pub legible_words : (line : List ℕ) → is_legible line ≡ true → AreWords (words_of line)
legible_words line h = words_of_parts (slice_split is_blank line) (parts_legible line h)

-- ---- short words are names

-- each word is a name
abbrev AreNames : List (List ℕ) → Type 0
AreNames [] = Unit {0}
AreNames (w ∷ ws) = IsName w × AreNames ws

low_word : (b : ℕ) → b < 128 → is_word_byte b ≡ true → (33 ≤ b) × (b ≤ 126)
low_word b lt h = grind (arith, nat_tests)

byte_is_word : (b : ℕ) → is_word_byte b ≡ true → IsWordByte b
byte_is_word b h = elim (cases_lt b 128) [
  | inl lt ↦ inl (low_word b lt h)
  | inr ge ↦ inr ge
]

bytes_are_word : (w : List ℕ) → list_all is_word_byte w ≡ true → AllByRecursion IsWordByte w
bytes_are_word [] h = tt
bytes_are_word (b ∷ bs) h = let h' = and_true (is_word_byte b) (list_all is_word_byte bs) h in (byte_is_word b h'.0, bytes_are_word bs h'.1)

name_of : (w : List ℕ) → list_all is_word_byte w ≡ true → (length w == 0) ≡ false → nat_le (length w) 255 ≡ true → IsName w
name_of w bytes some short = record {
  some = grind (arith, nat_tests);
  short = leb-true (length w) 255 short;
  bytes = All-from_recursion IsWordByte w (bytes_are_word w bytes);
}

names : (ws : List (List ℕ)) → AreWords ws → are_short ws ≡ true → AreNames ws
names [] w h = tt
names (x ∷ ws) w h = let h' = and_true (nat_le (length x) 255) (are_short ws) h in (name_of x w.0.0 w.0.1 h'.0, names ws w.1 h'.1)

-- ---- the shape of a line's words

-- the shape is of the section, and its words are proper
pub record IsFine (s : Section) (shape : Shape) : Type 0 where
  pub section : belongs (Some s) shape ≡ true
  pub words : IsWorded shape

-- a statement about a value, if there is one
abbrev If : {A : Type 0} → (A → Type 0) → Option A → Type 0
If P None = Unit {0}
If P (Some x) = P x

fine_sense : (ws : List (List ℕ)) → If (IsFine Objsense) (sense_of ws)
fine_sense [] = tt
fine_sense (a ∷ []) = record { section = refl; words = tt }
fine_sense (a ∷ b ∷ ws) = tt

fine_row : (ws : List (List ℕ)) → AreNames ws → If (IsFine Rows) (row_of ws)
fine_row [] n = tt
fine_row (a ∷ []) n = tt
fine_row (a ∷ b ∷ []) n = record { section = refl; words = n.1.0 }
fine_row (a ∷ b ∷ c ∷ ws) n = tt

fine_pairs : (name : List ℕ) (ws : List (List ℕ)) → IsName name → AreNames ws → If (IsFine Columns) (option_map (λ pairs. shapes.column name pairs) (pairs_of ws))
fine_pairs name [] n p = tt
fine_pairs name (a ∷ []) n p = tt
fine_pairs name (a ∷ b ∷ []) n p = record { section = refl; words = (n, (p.1.0.short, tt)) }
fine_pairs name (a ∷ b ∷ c ∷ []) n p = tt
fine_pairs name (a ∷ b ∷ c ∷ d ∷ []) n p = record { section = refl; words = (n, (p.1.0.short, (p.1.1.1.0.short, tt))) }
fine_pairs name (a ∷ b ∷ c ∷ d ∷ e ∷ ws) n p = tt

fine_coefficients : (ws : List (List ℕ)) → AreNames ws → If (IsFine Columns) (coefficients_of ws)
fine_coefficients [] n = tt
fine_coefficients (name ∷ more) n = fine_pairs name more n.0 n.1

fine_choice : (s : Section) (t : Bool) (x y : Option Shape) → If (IsFine s) x → If (IsFine s) y → If (IsFine s) (if t then x else y)
fine_choice s true x y p q = p
fine_choice s false x y p q = q

fine_column : (ws : List (List ℕ)) → AreNames ws → If (IsFine Columns) (column_of ws)
fine_column [] n = tt
fine_column (a ∷ []) n = fine_coefficients (a ∷ []) n
fine_column (a ∷ b ∷ []) n = fine_coefficients (a ∷ b ∷ []) n
fine_column (a ∷ b ∷ c ∷ []) n = fine_choice Columns (bytes_eq b (codes "'MARKER'")) _ _ (record { section = refl; words = tt }) (fine_coefficients (a ∷ b ∷ c ∷ []) n)
fine_column (a ∷ b ∷ c ∷ d ∷ ws) n = fine_coefficients (a ∷ b ∷ c ∷ d ∷ ws) n

fine_sides : (s : Section) (ws : List (List ℕ)) → belongs (Some s) (shapes.sides None []) ≡ true → AreNames ws → If (IsFine s) (sides_of ws)
fine_sides s [] b n = tt
fine_sides s (a ∷ []) b n = tt
fine_sides s (a ∷ c ∷ []) b n = record { section = b; words = (n.1.0.short, tt) }
fine_sides s (a ∷ c ∷ d ∷ []) b n = record { section = b; words = (n.1.1.0.short, tt) }
fine_sides s (a ∷ c ∷ d ∷ e ∷ []) b n = record { section = b; words = (n.1.0.short, (n.1.1.1.0.short, tt)) }
fine_sides s (a ∷ c ∷ d ∷ e ∷ f ∷ []) b n = record { section = b; words = (n.1.1.0.short, (n.1.1.1.1.0.short, tt)) }
fine_sides s (a ∷ c ∷ d ∷ e ∷ f ∷ g ∷ ws) b n = tt

fine_numbered : (kind : BoundKind) (ws : List (List ℕ)) → AreNames ws → If (IsFine Bounds) (numbered_bound_of kind ws)
fine_numbered kind [] n = tt
fine_numbered kind (a ∷ []) n = tt
fine_numbered kind (a ∷ b ∷ []) n = record { section = refl; words = n.1.0.short }
fine_numbered kind (a ∷ b ∷ c ∷ []) n = record { section = refl; words = n.1.1.0.short }
fine_numbered kind (a ∷ b ∷ c ∷ d ∷ ws) n = tt

fine_bare : (kind : BoundKind) (ws : List (List ℕ)) → If (IsFine Bounds) (bare_bound_of kind ws)
fine_bare kind [] = tt
fine_bare kind (a ∷ []) = record { section = refl; words = tt }
fine_bare kind (a ∷ b ∷ []) = record { section = refl; words = tt }
fine_bare kind (a ∷ b ∷ c ∷ []) = record { section = refl; words = tt }
fine_bare kind (a ∷ b ∷ c ∷ d ∷ ws) = tt

fine_kind : (o : Option BoundKind) (ws : List (List ℕ)) → AreNames ws → If (IsFine Bounds) (option_and_then (λ kind. bound_of_kind kind ws) o)
fine_kind None ws n = tt
fine_kind (Some kind) ws n = fine_choice Bounds (takes_number kind) _ _ (fine_numbered kind ws n) (fine_bare kind ws)

fine_bound : (ws : List (List ℕ)) → AreNames ws → If (IsFine Bounds) (bound_of ws)
fine_bound [] n = tt
fine_bound (type ∷ ws) n = fine_kind (bound_kind_of type) ws n.1

fine_shape : (s : Section) (ws : List (List ℕ)) → AreNames ws → If (IsFine s) (shape_of s ws)
fine_shape Name ws n = tt
fine_shape Objsense ws n = fine_sense ws
fine_shape Rows ws n = fine_row ws n
fine_shape Columns ws n = fine_column ws n
fine_shape Rhs ws n = fine_sides Rhs ws refl n
fine_shape Ranges ws n = fine_sides Ranges ws refl n
fine_shape Bounds ws n = fine_bound ws n
fine_shape Endata ws n = tt

-- the shape of words in a section
pub shape_fine : (s : Option Section) (ws : List (List ℕ)) (shape : Shape) → AreWords ws → are_short ws ≡ true → shape_in s ws ≡ Some shape → (belongs s shape ≡ true) × IsWorded shape
shape_fine None ws shape w h e = let bad : None ≡ Some shape = e in absurd (cc)
shape_fine (Some s) ws shape w h e = let fine = subst (λ o. If (IsFine s) o) e (fine_shape s ws (names ws w h)) in (fine.section, fine.words)

-- ---- a data line

or_or : (a b c : Option Complaint) → or_fault a (or_fault b c) ≡ or_fault (or_fault a b) c
or_or None b c = refl
or_or (Some x) b c = refl

module _ (h : List Entry) (ws : List (List ℕ)) where
  pub data_bad_type : (s : Option Section) (c : Complaint) → s ≡ section_of h → or_fault (semi_continuous s ws) (bad_bound_kind s ws) ≡ Some c → data_fault h (section_of h) ws ≡ Some c
  data_bad_type s c same e =
      or_or (semi_continuous (section_of h) ws) (bad_bound_kind (section_of h) ws) (or_fault (bad_words h (section_of h) ws) (formed_fault h (section_of h) (shape_in (section_of h) ws)))
      ∙ ap (λ x. or_fault x (or_fault (bad_words h (section_of h) ws) (formed_fault h (section_of h) (shape_in (section_of h) ws)))) (subst (λ s. or_fault (semi_continuous s ws) (bad_bound_kind s ws) ≡ Some c) same e)

  data_good_type : (s : Option Section) → s ≡ section_of h → or_fault (semi_continuous s ws) (bad_bound_kind s ws) ≡ None
      → data_fault h (section_of h) ws ≡ or_fault (bad_words h (section_of h) ws) (formed_fault h (section_of h) (shape_in (section_of h) ws))
  data_good_type s same e =
      or_or (semi_continuous (section_of h) ws) (bad_bound_kind (section_of h) ws) (or_fault (bad_words h (section_of h) ws) (formed_fault h (section_of h) (shape_in (section_of h) ws)))
      ∙ ap (λ x. or_fault x (or_fault (bad_words h (section_of h) ws) (formed_fault h (section_of h) (shape_in (section_of h) ws)))) (subst (λ s. or_fault (semi_continuous s ws) (bad_bound_kind s ws) ≡ None) same e)

  pub data_long : (s : Option Section) → s ≡ section_of h → or_fault (semi_continuous s ws) (bad_bound_kind s ws) ≡ None → are_short ws ≡ false → data_fault h (section_of h) ws ≡ Some (record { kind = kinds.Words; word = None })
  data_long s same e f = data_good_type s same e ∙ rw f refl

  pub data_shapeless : (s : Option Section) → s ≡ section_of h → or_fault (semi_continuous s ws) (bad_bound_kind s ws) ≡ None → are_short ws ≡ true → shape_in s ws ≡ None
      → data_fault h (section_of h) ws ≡ Some (record { kind = kinds.Words; word = None })
  data_shapeless s same e t n = data_good_type s same e ∙ rw (t, subst (λ s. shape_in s ws ≡ None) same n) refl

  data_shaped : (s : Option Section) (shape : Shape) → s ≡ section_of h → or_fault (semi_continuous s ws) (bad_bound_kind s ws) ≡ None → are_short ws ≡ true → shape_in s ws ≡ Some shape
      → data_fault h (section_of h) ws ≡ shaped_fault shape h
  data_shaped s shape same e t n = data_good_type s same e ∙ rw (t, subst (λ s. shape_in s ws ≡ Some shape) same n) refl

  -- the shape was taken, so the line was
  pub data_taken : (n : ℕ) (s : Option Section) (shape : Shape) (new : Draft) (r : Result ⊤ MpsError) → s ≡ section_of h → or_fault (semi_continuous s ws) (bad_bound_kind s ws) ≡ None → are_short ws ≡ true → shape_in s ws ≡ Some shape
      → MatchResult r (λ _. (shaped_fault shape h ≡ None) × Drafts (shaped_says n shape h ++ h) new) (λ e. IsFaultOf n (shaped_fault shape h) e)
      → MatchResult r (λ _. (data_fault h (section_of h) ws ≡ None) × Drafts (formed_says h (section_of h) n (shape_in (section_of h) ws) ++ h) new) (λ e. IsFaultOf n (data_fault h (section_of h) ws) e)
  data_taken n s shape new r same e t is took =
      rw (data_shaped s shape same e t is, subst (λ s. shape_in s ws ≡ Some shape) same is) took

-- the fault of the type of a bound, by the first word
pub type_by_first : (s : Option Section) (w : List ℕ) (ws : List (List ℕ)) (o : Option Complaint) → IsFirst w ws
    → ((more : List (List ℕ)) → or_fault (semi_continuous s (w ∷ more)) (bad_bound_kind s (w ∷ more)) ≡ o) → or_fault (semi_continuous s ws) (bad_bound_kind s ws) ≡ o
type_by_first s w [] o f h = absurd f
type_by_first s w (x ∷ ws) o f h = rw f (h ws)

-- ---- six words decide

pub words_taken : (n : ℕ) (ws : List (List ℕ)) → AreWords ws → AreWords (take n ws)
words_taken zero ws a = tt
words_taken (suc n) [] a = tt
words_taken (suc n) (w ∷ ws) a = (a.0, words_taken n ws a.1)

none_both : (t : Bool) (x y : Option Shape) → x ≡ None → y ≡ None → (if t then x else y) ≡ None
none_both true x y p q = p
none_both false x y p q = q

-- no bound has six words
no_bound : (kind : Option BoundKind) (b c d e f : List ℕ) (more : List (List ℕ))
    → option_and_then (λ k. bound_of_kind k (b ∷ c ∷ d ∷ e ∷ f ∷ more)) kind ≡ None
no_bound None b c d e f more = refl
no_bound (Some k) b c d e f more =
    none_both (takes_number k) (numbered_bound_of k (b ∷ c ∷ d ∷ e ∷ f ∷ more)) (bare_bound_of k (b ∷ c ∷ d ∷ e ∷ f ∷ more)) refl refl

-- nor has any other line
no_shape : (s : Option Section) (a b c d e f : List ℕ) (more : List (List ℕ)) → shape_in s (a ∷ b ∷ c ∷ d ∷ e ∷ f ∷ more) ≡ None
no_shape None a b c d e f more = refl
no_shape (Some Name) a b c d e f more = refl
no_shape (Some Objsense) a b c d e f more = refl
no_shape (Some Rows) a b c d e f more = refl
no_shape (Some Columns) a b c d e f more = refl
no_shape (Some Rhs) a b c d e f more = refl
no_shape (Some Ranges) a b c d e f more = refl
no_shape (Some Bounds) a b c d e f more = no_bound (bound_kind_of a) b c d e f more
no_shape (Some Endata) a b c d e f more = refl

and_none : (t : Bool) → (t && false) ≡ false
and_none true = refl
and_none false = refl

-- so the words are at fault
shapeless : (h : List Entry) (s : Option Section) (ws : List (List ℕ)) → shape_in s ws ≡ None
    → data_fault h s ws ≡ or_fault (semi_continuous s ws) (or_fault (bad_bound_kind s ws) (Some (record { kind = kinds.Words; word = None })))
shapeless h s ws n = rw (n, and_none (are_short ws)) refl

-- if the words of a header are at fault and what it says does not depend on a third word behind it
may_many : (s : Option Section) (b c : List ℕ) (vs ws : List (List ℕ)) → may_follow s (b ∷ c ∷ vs) ≡ may_follow s (b ∷ c ∷ ws)
may_many None b c vs ws = refl
may_many (Some s) b c vs ws = refl

says_many : (s : Option Section) (b c : List ℕ) (vs ws : List (List ℕ)) → section_says s (b ∷ c ∷ vs) ≡ section_says s (b ∷ c ∷ ws)
says_many None b c vs ws = refl
says_many (Some s) b c vs ws = refl

six_fault : (h : List Entry) (data_line : Bool) (ws : List (List ℕ)) → words_fault h data_line (take 6 ws) ≡ words_fault h data_line ws
six_fault h data_line [] = refl
six_fault h data_line (a ∷ []) = refl
six_fault h data_line (a ∷ b ∷ []) = refl
six_fault h data_line (a ∷ b ∷ c ∷ []) = refl
six_fault h data_line (a ∷ b ∷ c ∷ d ∷ []) = refl
six_fault h data_line (a ∷ b ∷ c ∷ d ∷ e ∷ []) = refl
six_fault h true (a ∷ b ∷ c ∷ d ∷ e ∷ f ∷ more) =
    shapeless h (section_of h) (a ∷ b ∷ c ∷ d ∷ e ∷ f ∷ []) (no_shape (section_of h) a b c d e f [])
    ∙ sym (shapeless h (section_of h) (a ∷ b ∷ c ∷ d ∷ e ∷ f ∷ more) (no_shape (section_of h) a b c d e f more))
six_fault h false (a ∷ b ∷ c ∷ d ∷ e ∷ f ∷ more) =
    ap (λ t. or_fault (bad_section h (a ∷ [])) (fault_where kinds.Words (not t))) (may_many (section_of_word a) b c (d ∷ e ∷ f ∷ []) (d ∷ e ∷ f ∷ more))

six_say : (h : List Entry) (n : ℕ) (data_line : Bool) (ws : List (List ℕ)) → words_say h n data_line (take 6 ws) ≡ words_say h n data_line ws
six_say h n data_line [] = refl
six_say h n data_line (a ∷ []) = refl
six_say h n data_line (a ∷ b ∷ []) = refl
six_say h n data_line (a ∷ b ∷ c ∷ []) = refl
six_say h n data_line (a ∷ b ∷ c ∷ d ∷ []) = refl
six_say h n data_line (a ∷ b ∷ c ∷ d ∷ e ∷ []) = refl
six_say h n true (a ∷ b ∷ c ∷ d ∷ e ∷ f ∷ more) =
    ap (formed_says h (section_of h) n) (no_shape (section_of h) a b c d e f [] ∙ sym (no_shape (section_of h) a b c d e f more))
six_say h n false (a ∷ b ∷ c ∷ d ∷ e ∷ f ∷ more) = says_many (section_of_word a) b c (d ∷ e ∷ f ∷ []) (d ∷ e ∷ f ∷ more)

-- ---- a line

module _ (h : List Entry) (n : ℕ) (line : Line) where
  pub comment_good : too_long line ≡ None → is_comment line.content ≡ true → line_fault h line ≡ None
  comment_good e t = rw (e, t) refl

  pub comment_says : is_comment line.content ≡ true → line_says h n line ≡ []
  comment_says t = rw t refl

  pub illegible : too_long line ≡ None → is_comment line.content ≡ false → is_legible line.content ≡ false → line_fault h line ≡ Some (record { kind = kinds.Byte; word = None })
  illegible e t f = rw (e, t, f) refl

  pub legible_fault : too_long line ≡ None → is_comment line.content ≡ false → is_legible line.content ≡ true → line_fault h line ≡ words_fault h (is_data line.content) (words_of line.content)
  legible_fault e t f = rw (e, t, f) refl

  pub legible_says : is_comment line.content ≡ false → line_says h n line ≡ words_say h n (is_data line.content) (words_of line.content)
  legible_says t = rw t refl

  -- the first words were taken, so the line was
  pub line_taken : (new : Draft) (r : Result ⊤ MpsError) (data_line : Bool) (ws : List (List ℕ)) → too_long line ≡ None → is_comment line.content ≡ false → is_legible line.content ≡ true
      → data_line ≡ is_data line.content → ws ≡ take 6 (words_of line.content)
      → MatchResult r (λ _. (words_fault h data_line ws ≡ None) × Drafts (words_say h n data_line ws ++ h) new) (λ e. IsFaultOf n (words_fault h data_line ws) e)
      → MatchResult r (λ _. (line_fault h line ≡ None) × Drafts (line_says h n line ++ h) new) (λ e. IsFaultOf n (line_fault h line) e)
  line_taken new r data_line ws e t f d w took =
      let fault : words_fault h data_line ws ≡ words_fault h data_line (words_of line.content) = ap (words_fault h data_line) w ∙ six_fault h data_line (words_of line.content) in
      let says : words_say h n data_line ws ≡ words_say h n data_line (words_of line.content) = ap (words_say h n data_line) w ∙ six_say h n data_line (words_of line.content) in
      rw (legible_fault e t f, legible_says t, ← d, ← fault, ← says) took
