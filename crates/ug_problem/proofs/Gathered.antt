-- How the standings of a column grow with a term and with a row.
use Rattle.std.proofs.Common.{◌≡◌, refl, ◌∙◌, ap, sym, subst, inl, inr, ℕ, ◌+◌, ◌<◌, List, [], ◌∷◌, ◌++◌, length, take, map, set, get_or, replicate, nat_eq, eq-eqb, ne_eqb, if◌then◌else◌, Bool, true, false, append_assoc, arith}
use Rattle.std.proofs.lemmas.Bool.{cases_eq}
use Rattle.std.proofs.lemmas.List.{take_more, append-nil, get_or-set_same, get_or-set_other, get_or-replicate, length-replicate, length-map, length-take-le, map-append}
use Rattle.ug_rows.specs.declared.row.Term.{Term}
use Rattle.ug_rows.specs.Rows.{no_term, term_at}
use Rattle.ug_problem.specs.declared.column.NamedRow.{NamedRow}
use Rattle.ug_problem.specs.declared.entries.ColumnEntry.{ColumnEntry}
use Rattle.ug_problem.specs.ColumnEntries.{AreGathered, entries_at, entries_in, entries_over, terms_of_rows}
use Rattle.ug_problem.specs.Instances.{no_row}

-- the standing that one term gives to column j
abbrev pub one_entry : ℕ → ℕ → Term → List ColumnEntry
one_entry j r t = if nat_eq t.column j then record { row = r; factor = t.factor } ∷ [] else []

chosen : (b : Bool) (s : ColumnEntry) (xs ys : List ColumnEntry)
    → (if b then s ∷ (xs ++ ys) else (xs ++ ys)) ≡ (if b then s ∷ xs else xs) ++ ys
chosen true s xs ys = refl
chosen false s xs ys = refl

in_push : (j r : ℕ) (ts : List Term) (t : Term)
    → entries_in j r (ts ++ t ∷ []) ≡ entries_in j r ts ++ one_entry j r t
in_push j r [] t = refl
in_push j r (u ∷ ts) t =
    let s : ColumnEntry = record { row = r; factor = u.factor } in
    ap (λ (xs : List ColumnEntry). if nat_eq u.column j then s ∷ xs else xs) (in_push j r ts t)
    ∙ chosen (nat_eq u.column j) s (entries_in j r ts) (one_entry j r t)

pub in_more : (j r : ℕ) (ts : List Term) (i : ℕ) → i < length ts
    → entries_in j r (take (i + 1) ts) ≡ entries_in j r (take i ts) ++ one_entry j r (term_at ts i)
in_more j r ts i h = rw (take_more ts i no_term h) (in_push j r (take i ts) (term_at ts i))

over_push : (j r : ℕ) (rows : List (List Term)) (ts : List Term)
    → entries_over j r (rows ++ ts ∷ []) ≡ entries_over j r rows ++ entries_in j (r + length rows) ts
over_push j r [] ts =
    append-nil (entries_in j r ts)
    ∙ ap (λ (n : ℕ). entries_in j n ts) (omega arith)
over_push j r (us ∷ rows) ts =
    let e : r + 1 + length rows ≡ r + length (us ∷ rows) = omega arith in
    ap (λ (xs : List ColumnEntry). entries_in j r us ++ xs) (over_push j (r + 1) rows ts)
    ∙ sym (append_assoc (entries_in j r us) (entries_over j (r + 1) rows) (entries_in j (r + 1 + length rows) ts))
    ∙ ap (λ (n : ℕ). (entries_in j r us ++ entries_over j (r + 1) rows) ++ entries_in j n ts) e

here : (j r : ℕ) (t : Term) → t.column ≡ j → one_entry j r t ≡ record { row = r; factor = t.factor } ∷ []
here j r t e = rw (eq-eqb t.column j e) refl

elsewhere : (j r : ℕ) (t : Term) → (t.column ≡ j → ⊥) → one_entry j r t ≡ []
elsewhere j r t ne = rw (ne_eqb t.column j ne) refl

-- the list of a term's column gains its standing, and each other stays
pub term_added : (lists first : List (List ColumnEntry)) (r i : ℕ) (ts : List Term) (j : ℕ)
    → i < length ts → (term_at ts i).column < length lists
    → entries_at lists j ≡ entries_at first j ++ entries_in j r (take i ts)
    → entries_at (set lists (term_at ts i).column (entries_at lists (term_at ts i).column ++ record { row = r; factor = (term_at ts i).factor } ∷ [])) j
    ≡ entries_at first j ++ entries_in j r (take (i + 1) ts)
term_added lists first r i ts j there within so_far =
    let t : Term = term_at ts i in
    let s : ColumnEntry = record { row = r; factor = t.factor } in
    let grown : List ColumnEntry = entries_at lists t.column ++ s ∷ [] in
    let more : entries_in j r (take (i + 1) ts) ≡ entries_in j r (take i ts) ++ one_entry j r t = in_more j r ts i there in
    elim (cases_eq j t.column) [
      | inl same ↦
          let at : entries_at (set lists t.column grown) j ≡ grown = rw same (get_or-set_same lists t.column grown [] within) in
          let same_list : entries_at lists t.column ≡ entries_at lists j = ap (λ (k : ℕ). entries_at lists k) (sym same) in
          at ∙ ap (λ (xs : List ColumnEntry). xs ++ s ∷ []) (same_list ∙ so_far)
          ∙ append_assoc (entries_at first j) (entries_in j r (take i ts)) (s ∷ [])
          ∙ ap (λ (xs : List ColumnEntry). entries_at first j ++ xs)
          (ap (λ (xs : List ColumnEntry). entries_in j r (take i ts) ++ xs) (sym (here j r t (sym same))) ∙ sym more)
      | inr other ↦
          get_or-set_other lists t.column j grown [] other ∙ so_far
          ∙ ap (λ (xs : List ColumnEntry). entries_at first j ++ xs)
          (sym (append-nil (entries_in j r (take i ts)))
          ∙ ap (λ (xs : List ColumnEntry). entries_in j r (take i ts) ++ xs) (sym (elsewhere j r t (λ e. other (sym e)))) ∙ sym more)
    ]

-- a row more, with the standings of its terms behind those of the rows before it
pub row_gathered : (columns : ℕ) (rows : List (List Term)) (ts : List Term) (before after : List (List ColumnEntry))
    → AreGathered rows columns before → length after ≡ length before
    → ((j : ℕ) → j < length before → entries_at after j ≡ entries_at before j ++ entries_in j (length rows) ts)
    → AreGathered (rows ++ ts ∷ []) columns after
row_gathered columns rows ts before after so_far same grown = record {
  width = same ∙ so_far.width;
  each = λ j there.
      let at : j < length before = omega (arith, so_far.width) in
      grown j at ∙ ap (λ (xs : List ColumnEntry). xs ++ entries_in j (length rows) ts) (so_far.each j there)
      ∙ sym (over_push j 0 rows ts ∙ ap (λ (n : ℕ). entries_over j 0 rows ++ entries_in j n ts) (omega arith));
}

-- the same with the rows of a problem
pub named_gathered : (columns : ℕ) (rows : List NamedRow) (r : ℕ) (ts : List Term) (before after : List (List ColumnEntry))
    → r < length rows → ts ≡ (get_or rows r no_row).row.terms
    → AreGathered (terms_of_rows (take r rows)) columns before → length after ≡ length before
    → ((j : ℕ) → j < length before → entries_at after j ≡ entries_at before j ++ entries_in j r ts)
    → AreGathered (terms_of_rows (take (r + 1) rows)) columns after
named_gathered columns rows r ts before after there same so_far wide grown =
    let terms : NamedRow → List Term = λ (named : NamedRow). named.row.terms in
    let upto : length (terms_of_rows (take r rows)) ≡ r =
    length-map (take r rows) terms ∙ length-take-le r rows (omega arith) in
    let more : terms_of_rows (take (r + 1) rows) ≡ terms_of_rows (take r rows) ++ ts ∷ [] =
    ap (map terms) (take_more rows r no_row there) ∙ map-append terms (take r rows) (get_or rows r no_row ∷ [])
    ∙ ap (λ (us : List Term). terms_of_rows (take r rows) ++ us ∷ []) (sym same) in
    let P : List (List Term) → Type 0 = λ (tss : List (List Term)). AreGathered tss columns after in
    subst P (sym more) (row_gathered columns (terms_of_rows (take r rows)) ts before after so_far wide
    (λ j at. grown j at ∙ ap (λ (n : ℕ). entries_at before j ++ entries_in j n ts) (sym upto)))

pub nothing_gathered : (columns : ℕ) (lists : List (List ColumnEntry)) → lists ≡ replicate columns []
    → AreGathered [] columns lists
nothing_gathered columns lists e = record {
  width = ap (λ (xs : List (List ColumnEntry)). length xs) e ∙ length-replicate columns [];
  each = λ j there. ap (λ (xs : List (List ColumnEntry)). entries_at xs j) e ∙ get_or-replicate columns j [] [] there;
}

-- the same with the objective
pub last_gathered : (columns : ℕ) (rows : List NamedRow) (ts : List Term) (before after : List (List ColumnEntry))
    → AreGathered (terms_of_rows rows) columns before → length after ≡ length before
    → ((j : ℕ) → j < length before → entries_at after j ≡ entries_at before j ++ entries_in j (length rows) ts)
    → AreGathered (terms_of_rows rows ++ ts ∷ []) columns after
last_gathered columns rows ts before after so_far wide grown =
    let terms : NamedRow → List Term = λ (named : NamedRow). named.row.terms in
    row_gathered columns (terms_of_rows rows) ts before after so_far wide
    (λ j at. grown j at ∙ ap (λ (n : ℕ). entries_at before j ++ entries_in j n ts) (sym (length-map rows terms)))
