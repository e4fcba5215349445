-- What lines do to the draft: headers, senses, rows and markers.
use Rattle.std.proofs.Common.{◌≡◌, ℕ, ◌||◌, not, Bool, true, false, List, [], ◌∷◌, ◌++◌, length, get_or, Option, Some, None, nat_lt, nat_le, sym, refl, ap, subst, ◌∙◌}
use Rattle.std.specs.List.{list_any}
use Rattle.std.specs.Str.{bytes_eq}
use Rattle.std.proofs.lemmas.Bool.{eqb-true, false≢true}
use Rattle.std.proofs.lemmas.List.{length-map}
use Rattle.ug_lines.specs.declared.section.Section.{Section}
use Rattle.ug_lines.specs.declared.section.Section.TheVariants as sections
use Rattle.ug_lines.specs.declared.kinds.RowKind.{RowKind}
use Rattle.ug_lines.specs.Kinds.{row_kind_of}
use Rattle.ug_lines.specs.Shapes as shapes
use Rattle.ug_problem.specs.Instances.{IsName}
use Rattle.ug_drafts.specs.declared.role.Role.{Role}
use Rattle.ug_drafts.specs.declared.fault.Kind.TheVariants as kinds
use Rattle.ug_drafts.specs.declared.fault.MpsError.{MpsError}
use Rattle.ug_drafts.specs.Roles.{is_objective}
use Rattle.ug_mps.specs.declared.draft.Draft.{Draft}
use Rattle.ug_mps.specs.Entries.{Entry, row}
use Rattle.ug_mps.specs.Faults.{Complaint}
use Rattle.ug_mps.specs.History.{rank, is_section, RowNamed, rows_of, is_row, have_objective, role_with, role_after}
use Rattle.ug_mps.specs.Rows.{KeptRows, lists_of, AreRows}
use Rattle.ug_mps.specs.RowSteps.{new_row, is_among}
use Rattle.ug_mps.specs.Drafts.{Drafts, IsFaultOf, shaped_fault, shaped_says, is_in}
use Rattle.ug_mps.proofs.Bytes.{named_any, any_append, both}
use Rattle.ug_mps.proofs.RowsLemmas.{rows_and_row}
use Rattle.ug_mps.proofs.HistoryLemmas.{coefficients_known, sides_known, ranges_known}
use Rattle.ug_mps.proofs.ColumnsLemmas.{columns_kept}

-- ---- sections

-- the section at a place of the list of all
section_at : ℕ → Section
section_at n = get_or (sections.Name ∷ sections.Objsense ∷ sections.Rows ∷ sections.Columns ∷ sections.Rhs ∷ sections.Ranges ∷ sections.Bounds ∷ []) n sections.Endata

at_rank : (s : Section) → section_at (rank s) ≡ s
unfolding section_at
at_rank sections.Name = refl
at_rank sections.Objsense = refl
at_rank sections.Rows = refl
at_rank sections.Columns = refl
at_rank sections.Rhs = refl
at_rank sections.Ranges = refl
at_rank sections.Bounds = refl
at_rank sections.Endata = refl

pub section_same : (s t : Section) → is_section s t ≡ true → s ≡ t
section_same s t e = sym (at_rank s) ∙ ap section_at (eqb-true (rank s) (rank t) e) ∙ at_rank t

pub in_section : (s : Section) (o : Option Section) → is_in s o ≡ true → o ≡ Some s
in_section s None e = absurd (false≢true e)
in_section s (Some t) e = ap Some (sym (section_same s t e))

-- ---- faults

-- an error of this fault is one of the same
pub fault_same : (n : ℕ) (f g : Option Complaint) (e : MpsError) → f ≡ g → IsFaultOf n f e → IsFaultOf n g e
fault_same n f g e same is = subst (λ c. IsFaultOf n c e) same is

-- ---- rows

pub row_named : (h : List Entry) (rows : KeptRows) (name : List ℕ) → AreRows (lists_of h) rows → is_row h name ≡ is_among rows.names name
row_named h rows name are = sym (named_any (rows_of h) name) ∙ ap (λ ns. list_any (λ n. bytes_eq name n) ns) (sym are.names)

pub rows_count : (h : List Entry) (rows : KeptRows) → AreRows (lists_of h) rows → length rows.names ≡ length (rows_of h)
rows_count h rows are = ap length are.names ∙ length-map (rows_of h) (λ (r : RowNamed). r.name)

module _ (h : List Entry) (type name : List ℕ) (kind : RowKind) (e : row_kind_of type ≡ Some kind) where
  pub row_duplicate : is_row h name ≡ true → shaped_fault (shapes.row type name) h ≡ Some (record { kind = kinds.Duplicate; word = Some name })
  row_duplicate t = rw (e, t) refl

  pub row_full : is_row h name ≡ false → nat_le 10000 (length (rows_of h)) ≡ true → shaped_fault (shapes.row type name) h ≡ Some (record { kind = kinds.TooMany; word = None })
  row_full f t = rw (e, f, t) refl

  pub row_good : is_row h name ≡ false → nat_le 10000 (length (rows_of h)) ≡ false → shaped_fault (shapes.row type name) h ≡ None
  row_good f t = rw (e, f, t) refl

or_none : (b : Bool) → (b || false) ≡ b
or_none true = refl
or_none false = refl

pub objective_push : (rows : List RowNamed) (r : RowNamed) → have_objective (rows ++ r ∷ []) ≡ (have_objective rows || is_objective r.role)
objective_push rows r = any_append (λ (r : RowNamed). is_objective r.role) rows (r ∷ []) ∙ ap (λ b. have_objective rows || b) (or_none (is_objective r.role))

-- a row more
pub drafts_and_row : (h : List Entry) (d new : Draft) (n : ℕ) (kind : RowKind) (name : List ℕ) (role : Role) (has : Bool) → Drafts h d → IsName name → is_row h name ≡ false → nat_lt (length (rows_of h)) 10000 ≡ true
    → d.section ≡ Some sections.Rows → role ≡ role_with d.has_objective kind → has ≡ (d.has_objective || is_objective role)
    → new ≡ record d { rows = record { names = d.rows.names ++ name ∷ []; drafts = d.rows.drafts ++ new_row n role ∷ [] }; has_objective = has }
    → Drafts (row n kind name ∷ h) new
drafts_and_row h d new n kind name role has old named gone room s r o is =
    let e : Entry = row n kind name in
    let same : role ≡ role_after (rows_of h) kind = r ∙ ap (λ b. role_with b kind) old.objective in
    let named-row : RowNamed = record { line = n; role = role_after (rows_of h) kind; name = name } in
    subst (λ x. Drafts (e ∷ h) x) (sym is) (record {
      good = (record { fits = both (not (is_row h name)) (nat_lt (length (rows_of h)) 10000) (ap not gone) room; entry = named }, old.good);
      rows = subst (λ k. AreRows (lists_of (e ∷ h)) (record { names = d.rows.names ++ name ∷ []; drafts = d.rows.drafts ++ new_row n k ∷ [] })) (sym same)
          (rows_and_row (lists_of h) d.rows named-row old.rows (coefficients_known h old.good name gone) (sides_known h old.good name gone) (ranges_known h old.good name gone));
      columns = columns_kept e h d.columns refl (λ c. refl) old.columns;
      count = old.count;
      section = s;
      begun = old.begun;
      sensed = old.sensed;
      maximise = old.maximise;
      objective = o ∙ ap (λ b. b || is_objective role) old.objective ∙ ap (λ k. have_objective (rows_of h) || is_objective k) same ∙ sym (objective_push (rows_of h) named-row);
      integer = old.integer;
      set = old.set;
    })

-- what a row's line says
pub row_said : (h : List Entry) (n : ℕ) (type name : List ℕ) (kind : RowKind) (new : Draft) → row_kind_of type ≡ Some kind → Drafts (row n kind name ∷ h) new
    → Drafts (shaped_says n (shapes.row type name) h ++ h) new
row_said h n type name kind new e d = rw e d
