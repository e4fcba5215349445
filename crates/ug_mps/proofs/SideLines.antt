-- What lines of right-hand sides, ranges and bounds do to the draft.
use Rattle.std.proofs.Common.{◌≡◌, ℕ, ◌||◌, not, Bool, true, false, List, [], ◌∷◌, ◌++◌, set, find, All, Contains, Option, Some, None, is_none, Result, MatchResult, sym, refl, ap, subst, ◌∙◌, ⊎_elim, Bor}
use Rattle.std.specs.Prelude.{if◌then◌else◌, ⊤}
use Rattle.std.specs.Option.{option_map}
use Rattle.std.specs.Str.{bytes_eq}
use Rattle.std.proofs.lemmas.Bool.{cases_Bool, false≢true}
use Rattle.ug_lines.specs.declared.section.Section.TheVariants as sections
use Rattle.ug_lines.specs.declared.kinds.BoundKind.{BoundKind}
use Rattle.ug_lines.specs.Shapes.{WordPair, Shape}
use Rattle.ug_lines.specs.Shapes as shapes
use Rattle.ug_problem.specs.Decimals.{decimal_of}
use Rattle.ug_drafts.specs.declared.bound.Amount.{Amount}
use Rattle.ug_drafts.specs.declared.bound.BoundChange.{BoundChange}
use Rattle.ug_drafts.specs.declared.fault.Kind.TheVariants as kinds
use Rattle.ug_drafts.specs.declared.fault.MpsError.{MpsError}
use Rattle.ug_drafts.specs.declared.row.RowPart.{RowPart}
use Rattle.ug_drafts.specs.declared.row.RowPart.TheVariants as parts
use Rattle.ug_drafts.specs.Bounds.{IsBoundChange}
use Rattle.ug_drafts.specs.Kept.{with_change}
use Rattle.ug_mps.specs.declared.draft.Draft.{Draft}
use Rattle.ug_mps.specs.BoundWords.{amount_of, change_of}
use Rattle.ug_mps.specs.Entries.{Pair, Entry, sides, ranges, bound}
use Rattle.ug_mps.specs.Faults.{repeated, rows_in, numbers_in, is_ranges, given_in, is_other_set, change_by, bad_number}
use Rattle.ug_mps.specs.Good.{IsNumbered, are_free, are_apart, given_fits}
use Rattle.ug_mps.specs.History.{section_of, is_row, is_column, sides_given, ranges_given, names_row, set_of}
use Rattle.ug_mps.specs.Says.{pairs_read}
use Rattle.ug_mps.specs.Names.{StandsAt, AreDistinct}
use Rattle.ug_mps.specs.Rows.{KeptRows, Lists, lists_of, AreRows, is_taken, and_pairs, AreBelow}
use Rattle.ug_mps.specs.RowSteps.{is_among, first_missing, rows_named, AreAt, FindsRepeated, PutsPairs}
use Rattle.ug_mps.specs.Columns.{KeptColumns, column_at, AreColumns}
use Rattle.ug_mps.specs.Drafts.{Drafts, shaped_fault, shaped_says, is_in, is_passed_set, set_after, first_set, part_in, IsAmountOf, IsFaultOf}
use Rattle.ug_mps.proofs.Bytes.{both, any_true, same_bytes, not_false}
use Rattle.ug_mps.proofs.ColumnsLemmas.{columns_kept, columns_and_change, gone_of}
use Rattle.ug_mps.proofs.HistoryLemmas.{names_of, column_named}
use Rattle.ug_mps.proofs.PairsLemmas.{missing_is, read_rows, free_and_apart}
use Rattle.ug_mps.proofs.DraftLemmas.{in_section}

-- ---- sets

-- the set of the line is another one than that of the history, exactly where it is another one than
-- the draft's
pub other_same : (h : List Entry) (d : Draft) (named : Option (List ℕ)) → Drafts h d → is_other_set h named ≡ is_passed_set named d.set
other_same h d None old = refl
other_same h d (Some s) old = ap (λ u. is_passed_set (Some s) u) (sym old.set)

-- ---- right-hand sides and ranges

-- a line that is passed over
pub sides_passed : (h : List Entry) (d : Draft) (n : ℕ) (named : Option (List ℕ)) (ws : List WordPair) → Drafts h d → is_passed_set named d.set ≡ true
    → (shaped_fault (shapes.sides named ws) h ≡ None) × Drafts (shaped_says n (shapes.sides named ws) h ++ h) d
sides_passed h d n named ws old t = let other = other_same h d named old ∙ t in (rw other refl, rw other old)

-- what the part's pairs are
part_taken : (b : Bool) (l : Lists) (name : List ℕ) → is_taken (if b then parts.Range else parts.Side) l name ≡ names_row (if b then l.ranges else l.sides) name
part_taken true l name = refl
part_taken false l name = refl

part_below : (b : Bool) (l : Lists) → AreBelow (if b then parts.Range else parts.Side) l
part_below true l = tt
part_below false l = tt

repeated_ext : (p q : List ℕ → Bool) (xs : List (List ℕ)) → ((x : List ℕ) → p x ≡ q x) → repeated p xs ≡ repeated q xs
repeated_ext p q [] h = refl
repeated_ext p q (x ∷ xs) h = rw (h x) (ap (λ o. if q x then Some x else o) (repeated_ext (λ word. p word || bytes_eq word x) (λ word. q word || bytes_eq word x) xs (λ y. ap (λ b. b || bytes_eq y x) (h y))))

-- the set after a line that is not passed over
set_kept : (named used : Option (List ℕ)) → is_passed_set named used ≡ false → set_after named used ≡ first_set named used
set_kept None None e = refl
set_kept None (Some u) e = refl
set_kept (Some s) None e = refl
set_kept (Some s) (Some u) e = ap Some (sym (same_bytes s u (not_false (bytes_eq s u) e)))

set_of_sides : (h : List Entry) (named : Option (List ℕ)) (ps : List Pair) → first_set named (set_of h) ≡ set_of (sides named ps ∷ h)
set_of_sides h None ps = refl
set_of_sides h (Some s) ps = refl

set_of_ranges : (h : List Entry) (named : Option (List ℕ)) (ps : List Pair) → first_set named (set_of h) ≡ set_of (ranges named ps ∷ h)
set_of_ranges h None ps = refl
set_of_ranges h (Some s) ps = refl

set_of_bound : (h : List Entry) (named : Option (List ℕ)) (name : List ℕ) (change : BoundChange) → first_set named (set_of h) ≡ set_of (bound named name change ∷ h)
set_of_bound h None name change = refl
set_of_bound h (Some s) name change = refl

-- the draft with right-hand sides more
rhs_drafts : (h : List Entry) (d new : Draft) (named : Option (List ℕ)) (ps : List Pair) (rows : KeptRows) → Drafts h d → All IsNumbered ps → d.section ≡ Some sections.Rhs → is_passed_set named d.set ≡ false
    → given_fits h (sides_given h) ps ≡ true → AreRows (and_pairs parts.Side ps (lists_of h)) rows → new ≡ record d { set = set_after named d.set; rows = rows } → Drafts (sides named ps ∷ h) new
rhs_drafts h d new named ps rows old numbers s used fit taken is = subst (λ x. Drafts (sides named ps ∷ h) x) (sym is) (record {
  good = (record { fits = fit; entry = numbers }, old.good);
  rows = taken;
  columns = columns_kept (sides named ps) h d.columns refl (λ c. refl) old.columns;
  count = old.count;
  section = s;
  begun = old.begun;
  sensed = old.sensed;
  maximise = old.maximise;
  objective = old.objective;
  integer = old.integer;
  set = set_kept named d.set used ∙ ap (first_set named) old.set ∙ set_of_sides h named ps;
})

-- the draft with ranges more
ranges_drafts : (h : List Entry) (d new : Draft) (named : Option (List ℕ)) (ps : List Pair) (rows : KeptRows) → Drafts h d → All IsNumbered ps → d.section ≡ Some sections.Ranges → is_passed_set named d.set ≡ false
    → given_fits h (ranges_given h) ps ≡ true → AreRows (and_pairs parts.Range ps (lists_of h)) rows → new ≡ record d { set = set_after named d.set; rows = rows } → Drafts (ranges named ps ∷ h) new
ranges_drafts h d new named ps rows old numbers s used fit taken is = subst (λ x. Drafts (ranges named ps ∷ h) x) (sym is) (record {
  good = (record { fits = fit; entry = numbers }, old.good);
  rows = taken;
  columns = columns_kept (ranges named ps) h d.columns refl (λ c. refl) old.columns;
  count = old.count;
  section = s;
  begun = old.begun;
  sensed = old.sensed;
  maximise = old.maximise;
  objective = old.objective;
  integer = old.integer;
  set = set_kept named d.set used ∙ ap (first_set named) old.set ∙ set_of_ranges h named ps;
})

or_second : (a b : Bool) → (a || b) ≡ true → a ≡ false → b ≡ true
or_second true b e f = absurd (false≢true (sym f))
or_second false b e f = e

module _ (h : List Entry) (d : Draft) (old : Drafts h d) (named : Option (List ℕ)) (ws : List WordPair) (used : is_passed_set named d.set ≡ false) where
  used-h : is_other_set h named ≡ false
  used-h = other_same h d named old ∙ used

  pub sides_unknown : (w : List ℕ) → first_missing d.rows.names (rows_in ws) ≡ Some w → shaped_fault (shapes.sides named ws) h ≡ Some (record { kind = kinds.Unknown; word = Some w })
  sides_unknown w e = rw (used-h, missing_is h d.rows (rows_in ws) old.rows ∙ e) refl

  module _ (places : List ℕ) (m : first_missing d.rows.names (rows_in ws) ≡ None) (stand : AreAt d.rows.names (rows_in ws) places) where
    sides_repeats : (o : Option (Bor (List ℕ))) → FindsRepeated (part_in d.section) (rows_in ws) places d.rows o
        → repeated (λ word. names_row (given_in h (section_of h)) word) (rows_in ws) ≡ option_map (λ w. w.now) o
    sides_repeats o found =
        let s : RowPart = part_in (section_of h) in
        let f = subst (λ s. FindsRepeated (part_in s) (rows_in ws) places d.rows o) old.section found in
        repeated_ext (λ word. names_row (given_in h (section_of h)) word) (λ word. is_taken (part_in (section_of h)) (lists_of h) word) (rows_in ws) (λ x. sym (part_taken (is_ranges (section_of h)) (lists_of h) x))
        ∙ sym (f (lists_of h) old.rows (part_below (is_ranges (section_of h)) (lists_of h)) stand)

    pub sides_repeated : (part : RowPart) (w : Bor (List ℕ)) → part ≡ part_in d.section → FindsRepeated part (rows_in ws) places d.rows (Some w)
        → shaped_fault (shapes.sides named ws) h ≡ Some (record { kind = kinds.Duplicate; word = Some w.now })
    sides_repeated part w e found =
        rw (used-h, missing_is h d.rows (rows_in ws) old.rows ∙ m, sides_repeats (Some w) (subst (λ p. FindsRepeated p (rows_in ws) places d.rows (Some w)) e found)) refl

    module _ (part : RowPart) (e : part ≡ part_in d.section) (finds : FindsRepeated part (rows_in ws) places d.rows None) where
      found : FindsRepeated (part_in d.section) (rows_in ws) places d.rows None
      found = subst (λ p. FindsRepeated p (rows_in ws) places d.rows None) e finds

      pub sides_no_number : (w : List ℕ) → find (λ word. is_none (decimal_of word)) (numbers_in ws) ≡ Some w → shaped_fault (shapes.sides named ws) h ≡ Some (record { kind = kinds.Number; word = Some w })
      sides_no_number w n = rw (used-h, missing_is h d.rows (rows_in ws) old.rows ∙ m, sides_repeats None found, n) refl

      pub sides_good : find (λ word. is_none (decimal_of word)) (numbers_in ws) ≡ None → shaped_fault (shapes.sides named ws) h ≡ None
      sides_good n = rw (used-h, missing_is h d.rows (rows_in ws) old.rows ∙ m, sides_repeats None found, n) refl

      -- the pairs fit
      sides_do_fit : (ps : List Pair) → pairs_read ws ≡ Some ps → given_fits h (given_in h (section_of h)) ps ≡ true
      sides_do_fit ps read =
          let rows = read_rows ws ps read in
          let fit = free_and_apart h (λ r. names_row (given_in h (section_of h)) r) ps
          (ap (find (λ word. not (is_row h word))) rows ∙ missing_is h d.rows (rows_in ws) old.rows ∙ m)
          (ap (repeated (λ word. names_row (given_in h (section_of h)) word)) rows ∙ sides_repeats None found) in
          both (are_free h (λ r. names_row (given_in h (section_of h)) r) ps) (are_apart ps) fit.0 fit.1

      -- the rows with the pairs
      sides_taken : (ps : List Pair) (rows : KeptRows) → pairs_read ws ≡ Some ps → PutsPairs (part_in d.section) ps places d.rows rows → AreRows (and_pairs (part_in (section_of h)) ps (lists_of h)) rows
      sides_taken ps rows read puts =
          let same = read_rows ws ps read in
          let put = subst (λ s. PutsPairs (part_in s) ps places d.rows rows) old.section puts in
          put (lists_of h) old.rows (subst (λ rs. AreAt d.rows.names rs places) (sym same) stand)
          (repeated_ext (λ word. is_taken (part_in (section_of h)) (lists_of h) word) (λ word. names_row (given_in h (section_of h)) word) (rows_named ps) (λ x. part_taken (is_ranges (section_of h)) (lists_of h) x)
          ∙ ap (repeated (λ word. names_row (given_in h (section_of h)) word)) same ∙ sides_repeats None found)

      -- the draft with the line
      pub drafts_and_sides : (n : ℕ) (ps : List Pair) (rows : KeptRows) (new : Draft) → pairs_read ws ≡ Some ps → All IsNumbered ps → (is_in sections.Rhs d.section || is_in sections.Ranges d.section) ≡ true
          → PutsPairs part ps places d.rows rows → new ≡ record d { set = set_after named d.set; rows = rows } → Drafts (shaped_says n (shapes.sides named ws) h ++ h) new
      drafts_and_sides n ps rows new read numbers s puts is =
          let fit = sides_do_fit ps read in
          let taken = sides_taken ps rows read (subst (λ p. PutsPairs p ps places d.rows rows) e puts) in ⊎_elim
          (λ t. let here : d.section ≡ Some sections.Rhs = in_section sections.Rhs d.section t in
          let at : section_of h ≡ Some sections.Rhs = sym old.section ∙ here in
          rw (used-h, read, at) (rhs_drafts h d new named ps rows old numbers here used (subst (λ s. given_fits h (given_in h s) ps ≡ true) at fit) (subst (λ s. AreRows (and_pairs (part_in s) ps (lists_of h)) rows) at taken) is))
          (λ f. let here : d.section ≡ Some sections.Ranges = in_section sections.Ranges d.section (or_second (is_in sections.Rhs d.section) (is_in sections.Ranges d.section) s f) in
          let at : section_of h ≡ Some sections.Ranges = sym old.section ∙ here in
          rw (used-h, read, at) (ranges_drafts h d new named ps rows old numbers here used (subst (λ s. given_fits h (given_in h s) ps ≡ true) at fit) (subst (λ s. AreRows (and_pairs (part_in s) ps (lists_of h)) rows) at taken) is))
          (cases_Bool (is_in sections.Rhs d.section))

-- ---- bounds

-- what a bound's number says
change_said : (kind : BoundKind) (number : Option (List ℕ)) (a : Option Amount) → IsAmountOf number a → change_by kind number ≡ change_of kind a
change_said kind None None e = refl
change_said kind None (Some a) e = absurd e
change_said kind (Some w) None e = absurd e
change_said kind (Some w) (Some a) e = rw e refl

amount_there : (number : Option (List ℕ)) (a : Option Amount) → IsAmountOf number a → (kind : BoundKind) (named : Option (List ℕ)) (name : List ℕ) → bad_number (shapes.bound kind named name number) ≡ None
amount_there None None e kind named name = refl
amount_there None (Some a) e kind named name = absurd e
amount_there (Some w) None e kind named name = absurd e
amount_there (Some w) (Some a) e kind named name = rw e refl

module _ (h : List Entry) (d : Draft) (old : Drafts h d) (named : Option (List ℕ)) (kind : BoundKind) (name : List ℕ) (number : Option (List ℕ)) where
  pub bound_passed : (n : ℕ) → is_passed_set named d.set ≡ true
      → (shaped_fault (shapes.bound kind named name number) h ≡ None) × Drafts (shaped_says n (shapes.bound kind named name number) h ++ h) d
  bound_passed n t = let other = other_same h d named old ∙ t in (rw other refl, rw other old)

  module _ (used : is_passed_set named d.set ≡ false) where
    used-b : is_other_set h named ≡ false
    used-b = other_same h d named old ∙ used

    pub bound_unknown : ¬ Contains d.columns.names name → shaped_fault (shapes.bound kind named name number) h ≡ Some (record { kind = kinds.Unknown; word = Some name })
    bound_unknown gone = rw (used-b, gone_of h name d.columns old.columns gone) refl

    module _ (at : ℕ) (here : StandsAt d.columns.names name at) where
      there : is_column h name ≡ true
      there = column_named h name ∙ any_true (names_of h) name at (subst (λ ns. StandsAt ns name at) old.columns.names here)

      pub bound_no_number : (w : List ℕ) → number ≡ Some w → amount_of w ≡ None → shaped_fault (shapes.bound kind named name number) h ≡ Some (record { kind = kinds.Number; word = Some w })
      bound_no_number w e n = rw (used-b, there, e) (rw n refl)

      pub bound_too_wide : (a : Option Amount) → IsAmountOf number a → change_of kind a ≡ None → shaped_fault (shapes.bound kind named name number) h ≡ Some (record { kind = kinds.TooWide; word = Some name })
      bound_too_wide a e n = rw (used-b, there, amount_there number a e kind named name, change_said kind number a e ∙ n) refl

      pub bound_good : (a : Option Amount) (change : BoundChange) → IsAmountOf number a → change_of kind a ≡ Some change → shaped_fault (shapes.bound kind named name number) h ≡ None
      bound_good a change e n = rw (used-b, there, amount_there number a e kind named name, change_said kind number a e ∙ n) refl

      -- the draft with the bound
      pub drafts_and_bound : (n : ℕ) (a : Option Amount) (change : BoundChange) (new : Draft) → IsAmountOf number a → change_of kind a ≡ Some change → IsBoundChange change → AreDistinct d.columns.names → d.section ≡ Some sections.Bounds
          → new ≡ record d { set = set_after named d.set; columns = record { names = d.columns.names; drafts = set d.columns.drafts at (with_change change (column_at d.columns.drafts at)) } }
          → Drafts (shaped_says n (shapes.bound kind named name number) h ++ h) new
      drafts_and_bound n a change new e c small apart s is =
          let entry : Entry = bound named name change in
          rw (used-b, change_said kind number a e ∙ c) (subst (λ x. Drafts (entry ∷ h) x) (sym is) (record {
            good = (record { fits = there; entry = small }, old.good);
            rows = old.rows;
            columns = columns_and_change named name change h d.columns at old.columns apart here;
            count = old.count;
            section = s;
            begun = old.begun;
            sensed = old.sensed;
            maximise = old.maximise;
            objective = old.objective;
            integer = old.integer;
            set = set_kept named d.set used ∙ ap (first_set named) old.set ∙ set_of_bound h named name change;
          }))

-- ---- two words behind a bound without a number

pub column_among : (h : List Entry) (c : KeptColumns) (name : List ℕ) → AreColumns h c → is_column h name ≡ is_among c.names name
column_among h c name are = column_named h name ∙ ap (λ ns. is_among ns name) (sym are.names)

pub either_set : (h : List Entry) (d new : Draft) (n : ℕ) (kind : BoundKind) (first second : List ℕ) (r : Result ⊤ MpsError) → AreColumns h d.columns → is_column h second ≡ true
    → MatchResult r (λ _. (shaped_fault (shapes.bound kind (Some first) second None) h ≡ None) × Drafts (shaped_says n (shapes.bound kind (Some first) second None) h ++ h) new) (λ e. IsFaultOf n (shaped_fault (shapes.bound kind (Some first) second None) h) e)
    → MatchResult r (λ _. (shaped_fault (shapes.either kind first second) h ≡ None) × Drafts (shaped_says n (shapes.either kind first second) h ++ h) new) (λ e. IsFaultOf n (shaped_fault (shapes.either kind first second) h) e)
either_set h d new n kind first second r are t is = rw t is

pub either_word : (h : List Entry) (d new : Draft) (n : ℕ) (kind : BoundKind) (first second : List ℕ) (r : Result ⊤ MpsError) → AreColumns h d.columns → is_column h second ≡ false
    → MatchResult r (λ _. (shaped_fault (shapes.bound kind None first None) h ≡ None) × Drafts (shaped_says n (shapes.bound kind None first None) h ++ h) new) (λ e. IsFaultOf n (shaped_fault (shapes.bound kind None first None) h) e)
    → MatchResult r (λ _. (shaped_fault (shapes.either kind first second) h ≡ None) × Drafts (shaped_says n (shapes.either kind first second) h ++ h) new) (λ e. IsFaultOf n (shaped_fault (shapes.either kind first second) h) e)
either_word h d new n kind first second r are f is = rw f is
