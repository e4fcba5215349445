-- What a header does to the draft.
use Rattle.std.proofs.Common.{◌≡◌, ℕ, ◌||◌, Bool, true, false, List, [], ◌∷◌, ◌++◌, Option, Some, None, sym, refl, ap, subst, ◌∙◌, ⊎_elim}
use Rattle.std.specs.List.{list_any}
use Rattle.std.specs.Option.{option_map}
use Rattle.std.proofs.lemmas.Bool.{cases_Bool}
use Rattle.ug_lines.specs.declared.section.Section.{Section}
use Rattle.ug_lines.specs.declared.section.Section.TheVariants as sections
use Rattle.ug_lines.specs.Kinds.{section_of_word, sense_of_word}
use Rattle.ug_mps.specs.declared.draft.Draft.{Draft}
use Rattle.ug_mps.specs.Entries.{Entry, header, sense}
use Rattle.ug_mps.specs.Faults.{may_follow}
use Rattle.ug_mps.specs.History.{is_section, has_section}
use Rattle.ug_mps.specs.Says.{header_fault, if_entry, sense_said, section_says}
use Rattle.ug_mps.specs.Drafts.{Drafts, Begins, with_sense, one_sense, sense_behind}
use Rattle.ug_mps.proofs.Bytes.{any_append}
use Rattle.ug_mps.proofs.ColumnsLemmas.{columns_kept}
use Rattle.ug_mps.proofs.DraftLemmas.{section_same}

or_turn : (a b : Bool) → (a || (b || false)) ≡ (b || a)
or_turn true true = refl
or_turn true false = refl
or_turn false true = refl
or_turn false false = refl

-- a section begins
begun_drafts : (h : List Entry) (s : Section) (d mid : Draft) → Drafts h d → Begins s d mid → Drafts (header s ∷ h) mid
begun_drafts h s d mid old b = subst (λ x. Drafts (header s ∷ h) x) (sym b.rest) (record {
  good = (record { fits = refl; entry = tt }, old.good);
  rows = old.rows;
  columns = columns_kept (header s) h d.columns refl (λ c. refl) old.columns;
  count = old.count;
  section = refl;
  begun = λ t. ap (list_any (is_section t)) b.begun ∙ any_append (is_section t) d.begun.items (s ∷ []) ∙ or_turn (list_any (is_section t) d.begun.items) (is_section t s) ∙ ap (λ x. is_section t s || x) (old.begun t);
  sensed = old.sensed;
  maximise = old.maximise;
  objective = old.objective;
  integer = old.integer;
  set = refl;
})

-- a sense is given
sensed_drafts : (h : List Entry) (maximise : Bool) (d : Draft) → Drafts (header sections.Objsense ∷ h) d → Drafts (sense maximise ∷ header sections.Objsense ∷ h) (with_sense (Some maximise) d)
sensed_drafts h maximise d old = record {
  good = (record { fits = refl; entry = tt }, old.good);
  rows = old.rows;
  columns = columns_kept (sense maximise) (header sections.Objsense ∷ h) d.columns refl (λ c. refl) old.columns;
  count = old.count;
  section = old.section;
  begun = old.begun;
  sensed = refl;
  maximise = refl;
  objective = old.objective;
  integer = old.integer;
  set = old.set;
}

given_sense : (h : List Entry) (o : Option Bool) (d : Draft) → Drafts (header sections.Objsense ∷ h) d
    → Drafts ((if_entry (option_map (λ b. sense b) o) ++ header sections.Objsense ∷ []) ++ h) (with_sense o d)
given_sense h None d old = old
given_sense h (Some b) d old = sensed_drafts h b d old

words_sense : (h : List Entry) (ws : List (List ℕ)) (d : Draft) → Drafts (header sections.Objsense ∷ h) d → Drafts ((sense_said ws ++ header sections.Objsense ∷ []) ++ h) (with_sense (one_sense ws) d)
words_sense h [] d old = old
words_sense h (w ∷ []) d old = given_sense h (sense_of_word w) d old
words_sense h (w ∷ v ∷ ws) d old = old

section_drafts : (h : List Entry) (s : Section) (ws : List (List ℕ)) (d : Draft) → Drafts (header s ∷ h) d → Drafts (section_says (Some s) ws ++ h) (with_sense (sense_behind s ws) d)
section_drafts h s ws d old = ⊎_elim
    (λ t. let e : sections.Objsense ≡ s = section_same sections.Objsense s t in
    subst (λ s. Drafts (section_says (Some s) ws ++ h) (with_sense (sense_behind s ws) d)) e
    (words_sense h ws d (subst (λ s. Drafts (header s ∷ h) d) (sym e) old)))
    (λ f. rw f old)
    (cases_Bool (is_section sections.Objsense s))

-- a header is taken
pub header_taken : (h : List Entry) (word : List ℕ) (ws : List (List ℕ)) (s : Section) (d mid new : Draft) → Drafts h d → section_of_word word ≡ Some s → list_any (is_section s) d.begun.items ≡ false
    → may_follow (Some s) ws ≡ true → Begins s d mid → new ≡ with_sense (sense_behind s ws) mid
    → (header_fault h (word ∷ ws) ≡ None) × Drafts (section_says (section_of_word word) ws ++ h) new
header_taken h word ws s d mid new old e f m b is =
    let none : has_section h s ≡ false = sym (old.begun s) ∙ f in (
      rw (e, none, m) refl,
      rw e (subst (λ x. Drafts (section_says (Some s) ws ++ h) x) (sym is) (section_drafts h s ws mid (begun_drafts h s d mid old b))),
    )
