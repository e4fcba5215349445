-- What a column's line does to the draft.
use Rattle.std.proofs.Common.{◌≡◌, ℕ, ◌+◌, ◌<◌, ◌||◌, ◌&&◌, not, Bool, true, false, List, ◌∷◌, ◌++◌, length, find, All, Option, Some, None, is_none, nat_lt, nat_le, sym, refl, ap, subst, ◌∙◌, arith, Bor}
use Rattle.std.specs.Option.{option_map}
use Rattle.std.proofs.lemmas.Bool.{false≢true, lt-ltb, le-leb, ltb-false, leb-false}
use Rattle.std.proofs.lemmas.List.{length-append, length-map}
use Rattle.ug_lines.specs.declared.section.Section.TheVariants as sections
use Rattle.ug_lines.specs.Shapes.{WordPair}
use Rattle.ug_lines.specs.Shapes as shapes
use Rattle.ug_problem.specs.Decimals.{decimal_of}
use Rattle.ug_problem.specs.Instances.{IsName}
use Rattle.ug_drafts.specs.declared.fault.Kind.TheVariants as kinds
use Rattle.ug_drafts.specs.declared.row.RowPart.TheVariants as parts
use Rattle.ug_mps.specs.declared.draft.Draft.{Draft}
use Rattle.ug_mps.specs.Entries.{Pair, Entry, column}
use Rattle.ug_mps.specs.Faults.{repeated, rows_in, numbers_in, is_begun_again}
use Rattle.ug_mps.specs.Good.{IsNumbered, are_free, are_apart, column_fits}
use Rattle.ug_mps.specs.History.{is_row, is_column, goes_on, place_of, coefficients, has, placed, Coefficient}
use Rattle.ug_mps.specs.Says.{pairs_read}
use Rattle.ug_mps.specs.Rows.{KeptRows, lists_of, AreRows}
use Rattle.ug_mps.specs.RowSteps.{first_missing, AreAt, FindsRepeated, PutsPairs}
use Rattle.ug_mps.specs.Columns.{KeptColumns, OpensColumn}
use Rattle.ug_mps.specs.Drafts.{Drafts, shaped_fault, shaped_says}
use Rattle.ug_mps.proofs.Bytes.{both, or_false}
use Rattle.ug_mps.proofs.HistoryLemmas.{below_of}
use Rattle.ug_mps.proofs.PairsLemmas.{missing_is, read_rows, read_count, free_and_apart}

not_again : (a b : Bool) → (a && not b) ≡ false → (b || not a) ≡ true
not_again a true e = refl
not_again true false e = absurd (false≢true (sym e))
not_again false false e = refl

below_leb : (n : ℕ) → nat_le 10000 n ≡ false → n < 10000
below_leb n e = leb-false 10000 n e

module _ (h : List Entry) (d : Draft) (old : Drafts h d) (name : List ℕ) (ws : List WordPair) where
  -- ---- its faults, one after the other

  pub column_unknown : (w : List ℕ) → first_missing d.rows.names (rows_in ws) ≡ Some w → shaped_fault (shapes.column name ws) h ≡ Some (record { kind = kinds.Unknown; word = Some w })
  column_unknown w e = rw (missing_is h d.rows (rows_in ws) old.rows ∙ e) refl

  pub column_again : first_missing d.rows.names (rows_in ws) ≡ None → is_begun_again h name ≡ true → shaped_fault (shapes.column name ws) h ≡ Some (record { kind = kinds.Duplicate; word = Some name })
  column_again m t = rw (missing_is h d.rows (rows_in ws) old.rows ∙ m, t) refl

  -- rows that are repeated within the column
  column_repeats : (at : ℕ) (places : List ℕ) (o : Option (Bor (List ℕ))) → at ≡ place_of h name → AreAt d.rows.names (rows_in ws) places
      → FindsRepeated (parts.Coefficient at) (rows_in ws) places d.rows o → repeated (λ word. has (coefficients h) (place_of h name) word) (rows_in ws) ≡ option_map (λ w. w.now) o
  column_repeats at places o e stand found =
      let below = below_of h old.good name in
      let f = subst (λ j. FindsRepeated (parts.Coefficient j) (rows_in ws) places d.rows o) e found in
      sym (f (lists_of h) old.rows below stand)

  pub column_repeated : (at : ℕ) (places : List ℕ) (w : Bor (List ℕ)) → first_missing d.rows.names (rows_in ws) ≡ None → is_begun_again h name ≡ false → at ≡ place_of h name → AreAt d.rows.names (rows_in ws) places
      → FindsRepeated (parts.Coefficient at) (rows_in ws) places d.rows (Some w) → shaped_fault (shapes.column name ws) h ≡ Some (record { kind = kinds.Duplicate; word = Some w.now })
  column_repeated at places w m f e stand found = rw (missing_is h d.rows (rows_in ws) old.rows ∙ m, f, column_repeats at places (Some w) e stand found) refl

  module _ (at : ℕ) (places : List ℕ) (m : first_missing d.rows.names (rows_in ws) ≡ None) (f : is_begun_again h name ≡ false) (e : at ≡ place_of h name) (stand : AreAt d.rows.names (rows_in ws) places)
      (found : FindsRepeated (parts.Coefficient at) (rows_in ws) places d.rows None) where
    pub column_no_number : (w : List ℕ) → find (λ word. is_none (decimal_of word)) (numbers_in ws) ≡ Some w → shaped_fault (shapes.column name ws) h ≡ Some (record { kind = kinds.Number; word = Some w })
    column_no_number w n = rw (missing_is h d.rows (rows_in ws) old.rows ∙ m, f, column_repeats at places None e stand found, n) refl

    -- whether there is no room
    full_same : (more : ℕ) (b : Bool) → more ≡ length ws → b ≡ (nat_le 10000 at || nat_lt 1000000 (d.count + more)) → (nat_le 10000 (place_of h name) || nat_lt 1000000 (length (coefficients h) + length ws)) ≡ b
    full_same more b c t = rw (← e, ← c, ← old.count) (sym t)

    pub column_full : (more : ℕ) → find (λ word. is_none (decimal_of word)) (numbers_in ws) ≡ None → more ≡ length ws → true ≡ (nat_le 10000 at || nat_lt 1000000 (d.count + more))
        → shaped_fault (shapes.column name ws) h ≡ Some (record { kind = kinds.TooMany; word = None })
    column_full more n c t = rw (missing_is h d.rows (rows_in ws) old.rows ∙ m, f, column_repeats at places None e stand found, n, full_same more true c t) refl

    pub column_good : (more : ℕ) → find (λ word. is_none (decimal_of word)) (numbers_in ws) ≡ None → more ≡ length ws → false ≡ (nat_le 10000 at || nat_lt 1000000 (d.count + more)) → shaped_fault (shapes.column name ws) h ≡ None
    column_good more n c t = rw (missing_is h d.rows (rows_in ws) old.rows ∙ m, f, column_repeats at places None e stand found, n, full_same more false c t) refl

    -- the column's line fits
    pub column_does_fit : (ps : List Pair) (more : ℕ) → pairs_read ws ≡ Some ps → more ≡ length ws → false ≡ (nat_le 10000 at || nat_lt 1000000 (d.count + more)) → column_fits h name ps ≡ true
    column_does_fit ps more read c t =
        let rows = read_rows ws ps read in
        let room = or_false (nat_le 10000 (place_of h name)) (nat_lt 1000000 (length (coefficients h) + length ws)) (full_same more false c t) in
        let fit = free_and_apart h (λ r. has (coefficients h) (place_of h name) r) ps
        (ap (find (λ word. not (is_row h word))) rows ∙ missing_is h d.rows (rows_in ws) old.rows ∙ m)
        (ap (repeated (λ word. has (coefficients h) (place_of h name) word)) rows ∙ column_repeats at places None e stand found) in
        both ((goes_on h name || not (is_column h name)) && nat_lt (place_of h name) 10000) _
        (both (goes_on h name || not (is_column h name)) (nat_lt (place_of h name) 10000) (not_again (is_column h name) (goes_on h name) f) (lt-ltb (place_of h name) 10000 (below_leb (place_of h name) room.0)))
        (both (are_free h (λ r. has (coefficients h) (place_of h name) r) ps && are_apart ps) (nat_le (length (coefficients h) + length ps) 1000000)
        (both (are_free h (λ r. has (coefficients h) (place_of h name) r) ps) (are_apart ps) fit.0 fit.1)
        (le-leb (length (coefficients h) + length ps) 1000000 (omega (arith, ltb-false 1000000 (length (coefficients h) + length ws) room.1, read_count ws ps read))))

    -- the draft with the column's line
    pub drafts_and_column : (n : ℕ) (ps : List Pair) (more : ℕ) (begins : Bool) (cols : KeptColumns) (rows : KeptRows) (new : Draft) → pairs_read ws ≡ Some ps → more ≡ length ws → false ≡ (nat_le 10000 at || nat_lt 1000000 (d.count + more))
        → IsName name → All IsNumbered ps → d.section ≡ Some sections.Columns → begins ≡ not (goes_on h name)
        → OpensColumn n name d.integer begins d.columns cols → PutsPairs (parts.Coefficient at) ps places d.rows rows
        → new ≡ record d { columns = cols; rows = rows; count = d.count + more } → Drafts (shaped_says n (shapes.column name ws) h ++ h) new
    drafts_and_column n ps more begins cols rows new read c t named numbers s b opens puts is =
        let entry : Entry = column n name ps in
        let same = read_rows ws ps read in
        let put = subst (λ j. PutsPairs (parts.Coefficient j) ps places d.rows rows) e puts in
        let taken : AreRows (lists_of (entry ∷ h)) rows = put (lists_of h) old.rows (subst (λ rs. AreAt d.rows.names rs places) (sym same) stand)
        (ap (repeated (λ word. has (coefficients h) (place_of h name) word)) same ∙ column_repeats at places None e stand found) in
        rw read (subst (λ x. Drafts (entry ∷ h) x) (sym is) (record {
          good = (record { fits = column_does_fit ps more read c t; entry = record { named = named; numbers = numbers } }, old.good);
          rows = taken;
          columns = opens h ps old.good old.columns f b old.integer;
          count = omega (arith, old.count, c, read_count ws ps read, length-append (coefficients h) (placed (place_of h name) ps), length-map ps (λ (p : Pair). let q : Coefficient = record { place = place_of h name; row = p.row; number = p.number } in q));
          section = s;
          begun = old.begun;
          sensed = old.sensed;
          maximise = old.maximise;
          objective = old.objective;
          integer = old.integer;
          set = old.set;
        }))
