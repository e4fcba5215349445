-- The lists gathered term by term are the entries of each column.
use Rattle.std.proofs.Common.{◌≡◌, ◌≢◌, refl, ◌∙◌, ap, sym, subst, inl, inr, ℕ, zero, suc, ◌+◌, ◌<◌, ◌⊎◌, List, [], ◌∷◌, ◌++◌, length, get_or, eq-eqb, ne_eqb, arith}
use Rattle.std.proofs.lemmas.Bool.{cases_eq}
use Rattle.std.proofs.lemmas.List.{length-map, length-append}
use Rattle.ug_rows.specs.declared.row.Term.{Term}
use Rattle.ug_rows.specs.Rows.{IsAmong}
use Rattle.ug_rows.proofs.EndBounds.{AreApart, IsFree, apart_from_index}
use Rattle.ug_problem.specs.declared.column.NamedRow.{NamedRow}
use Rattle.ug_problem.specs.declared.entries.ColumnEntry.{ColumnEntry}
use Rattle.ug_problem.specs.Instances.{Instance, IsFormed, no_row}
use Rattle.ug_problem.specs.ColumnEntries.{AreGathered, AreKept, AreColumnEntries, all_terms, entry_at, entries_in, entries_over, term_of, terms_of, terms_of_rows}

free_none : (j r : ℕ) (ts : List Term) → IsFree j ts → entries_in j r ts ≡ []
free_none j r [] free = refl
free_none j r (t ∷ ts) free = rw (ne_eqb t.column j free.0) (free_none j r ts free.1)

free_among : (j : ℕ) (ts : List Term) (t : Term) → IsFree j ts → IsAmong t ts → t.column ≢ j
free_among j [] t free among = absurd among
free_among j (u ∷ ts) t free (inl same) = λ e. free.0 (ap (λ (v : Term). v.column) (sym same) ∙ e)
free_among j (u ∷ ts) t free (inr later) = free_among j ts t free.1 later

-- the one term of column j in the row, and its standing
pub record IsOne (j r : ℕ) (ts : List Term) : Type 0 where
  pub term : Term
  pub among : IsAmong term ts
  pub column : term.column ≡ j
  pub list : entries_in j r ts ≡ record { row = r; factor = term.factor } ∷ []

pub record IsNone (j r : ℕ) (ts : List Term) : Type 0 where
  pub free : IsFree j ts
  pub list : entries_in j r ts ≡ []

later_case : (j r : ℕ) (t : Term) (ts : List Term) → t.column ≢ j → IsNone j r ts ⊎ IsOne j r ts
    → IsNone j r (t ∷ ts) ⊎ IsOne j r (t ∷ ts)
later_case j r t ts ne (inl none) = inl (record { free = (ne, none.free); list = rw (ne_eqb t.column j ne) none.list })
later_case j r t ts ne (inr one) = inr (record {
  term = one.term;
  among = inr one.among;
  column = one.column;
  list = rw (ne_eqb t.column j ne) one.list;
})

-- a column has at most one term in a row
in_cases : (j r : ℕ) (ts : List Term) → AreApart ts → IsNone j r ts ⊎ IsOne j r ts
in_cases j r [] apart = inl (record { free = tt; list = refl })
in_cases j r (t ∷ ts) apart = elim (cases_eq t.column j) [
  | inl same ↦
      let free : IsFree j ts = subst (λ (c : ℕ). IsFree c ts) same apart.0 in
      let s : ColumnEntry = record { row = r; factor = t.factor } in
      inr (record {
        term = t;
        among = inl refl;
        column = same;
        list = rw (eq-eqb t.column j same) (ap (λ (xs : List ColumnEntry). s ∷ xs) (free_none j r ts free));
      })
  | inr other ↦ later_case j r t ts other (in_cases j r ts apart.1)
]

-- the standings of column j in these rows, the first of them row r
pub record AreFrom (j r : ℕ) (rows : List (List Term)) (list : List ColumnEntry) : Type 0 where
  pub rising : (i k : ℕ) → i < k → k < length list → (entry_at list i).row < (entry_at list k).row
  pub each : (k : ℕ) → k < length list → (n : ℕ) × (n < length rows) × ((entry_at list k).row ≡ r + n)
      × IsAmong (term_of j (entry_at list k)) (get_or rows n [])
  pub all : (n : ℕ) (t : Term) → IsAmong t (get_or rows n []) → t.column ≡ j
      → (k : ℕ) × (k < length list) × ((entry_at list k).row ≡ r + n)

abbrev AllApart : List (List Term) → Type 0
AllApart [] = Unit {0}
AllApart (ts ∷ rows) = AreApart ts × AllApart rows

from_none : (j r : ℕ) (ts : List Term) (rows : List (List Term)) (list : List ColumnEntry) → IsFree j ts
    → AreFrom j (r + 1) rows list → AreFrom j r (ts ∷ rows) list
from_none j r ts rows list free h = record {
  rising = h.rising;
  each = λ k there. let e = h.each k there in (suc e.0, omega (arith, e.1), omega (arith, e.2), e.3);
  all = λ n. elim n as (λ (m : ℕ). (t : Term) → IsAmong t (get_or (ts ∷ rows) m []) → t.column ≡ j
      → (k : ℕ) × (k < length list) × ((entry_at list k).row ≡ r + m)) [
        | zero ↦ λ t among column. absurd (free_among j ts t free among column)
        | suc m ↦ λ t among column. let a = h.all m t among column in (a.0, a.1, omega (arith, a.2))
      ];
}

from_one : (j r : ℕ) (ts : List Term) (rows : List (List Term)) (list : List ColumnEntry) (u : Term) → IsAmong u ts → u.column ≡ j
    → AreFrom j (r + 1) rows list → AreFrom j r (ts ∷ rows) (record { row = r; factor = u.factor } ∷ list)
from_one j r ts rows list u among column h =
    let s : ColumnEntry = record { row = r; factor = u.factor } in
    record {
      rising = λ i. elim i as (λ (a : ℕ). (k : ℕ) → a < k → k < length (s ∷ list)
          → (entry_at (s ∷ list) a).row < (entry_at (s ∷ list) k).row) [
            | zero ↦ λ k. elim k as (λ (b : ℕ). 0 < b → b < length (s ∷ list) → r < (entry_at (s ∷ list) b).row) [
              | zero ↦ λ less there. absurd (omega arith)
              | suc b ↦ λ less there. let e = h.each b (omega arith) in omega (arith, e.2)
            ]
            | suc a ↦ λ k. elim k as (λ (b : ℕ). suc a < b → b < length (s ∷ list)
                → (entry_at list a).row < (entry_at (s ∷ list) b).row) [
                  | zero ↦ λ less there. absurd (omega arith)
                  | suc b ↦ λ less there. h.rising a b (omega arith) (omega arith)
                ]
          ];
      each = λ k. elim k as (λ (b : ℕ). b < length (s ∷ list) → (n : ℕ) × (n < length (ts ∷ rows))
          × ((entry_at (s ∷ list) b).row ≡ r + n) × IsAmong (term_of j (entry_at (s ∷ list) b)) (get_or (ts ∷ rows) n [])) [
            | zero ↦ λ there. (
              0,
              omega arith,
              omega arith,
              subst (λ (c : ℕ). IsAmong (record { column = c; factor = u.factor }) ts) column among,
            )
            | suc b ↦ λ there. let e = h.each b (omega arith) in (suc e.0, omega (arith, e.1), omega (arith, e.2), e.3)
          ];
      all = λ n. elim n as (λ (m : ℕ). (t : Term) → IsAmong t (get_or (ts ∷ rows) m []) → t.column ≡ j
          → (k : ℕ) × (k < length (s ∷ list)) × ((entry_at (s ∷ list) k).row ≡ r + m)) [
            | zero ↦ λ t among column. (0, omega arith, omega arith)
            | suc m ↦ λ t among column. let a = h.all m t among column in (suc a.0, omega (arith, a.1), omega (arith, a.2))
          ];
    }

over_case : (j r : ℕ) (ts : List Term) (rows : List (List Term)) (list : List ColumnEntry) → IsNone j r ts ⊎ IsOne j r ts
    → AreFrom j (r + 1) rows list → AreFrom j r (ts ∷ rows) (entries_in j r ts ++ list)
over_case j r ts rows list (inl none) h =
    rw none.list (from_none j r ts rows list none.free h)
over_case j r ts rows list (inr one) h =
    rw one.list (from_one j r ts rows list one.term one.among one.column h)

over_are : (j r : ℕ) (rows : List (List Term)) → AllApart rows → AreFrom j r rows (entries_over j r rows)
over_are j r [] apart = record {
  rising = λ i k less there. absurd (omega arith);
  each = λ k there. absurd (omega arith);
  all = λ n t among column. absurd among;
}
over_are j r (ts ∷ rows) apart =
    over_case j r ts rows (entries_over j (r + 1) rows) (in_cases j r ts apart.0) (over_are j (r + 1) rows apart.1)

apart_named : (width : ℕ) (rows : List NamedRow) (last : List Term) → ((r : ℕ) → r < length rows → AreApart (get_or rows r no_row).row.terms)
    → AreApart last → AllApart (terms_of_rows rows ++ last ∷ [])
apart_named width [] last h apart = (apart, tt)
apart_named width (named ∷ rows) last h apart =
    (h 0 (omega arith), apart_named width rows last (λ r there. h (suc r) (omega arith)) apart)

all_apart : (p : Instance) → IsFormed p → AllApart (all_terms p)
all_apart p formed =
    apart_named (length p.columns) p.rows p.objective.terms
    (λ r there. apart_from_index (get_or p.rows r no_row).row.terms (formed.rows r no_row there).terms.rising)
    (apart_from_index p.objective.terms formed.objective.rising)

pub count_terms : (p : Instance) → length (all_terms p) ≡ length p.rows + 1
count_terms p =
    let terms : NamedRow → List Term = λ (named : NamedRow). named.row.terms in
    length-append (terms_of_rows p.rows) (p.objective.terms ∷ []) ∙ ap (λ (n : ℕ). n + 1) (length-map p.rows terms)

are_entries : (p : Instance) (j : ℕ) (list : List ColumnEntry) → AreFrom j 0 (all_terms p) list → AreColumnEntries p j list
are_entries p j list h = record {
  rising = h.rising;
  within = λ k there. let e = h.each k there in omega (arith, e.1, e.2, count_terms p);
  each = λ k there.
      let e = h.each k there in
      let same : e.0 ≡ (entry_at list k).row = omega (arith, e.2) in
      subst (λ (r : ℕ). IsAmong (term_of j (entry_at list k)) (terms_of p r)) same e.3;
  all = λ r t among column. let a = h.all r t among column in (a.0, a.1, omega (arith, a.2));
}

-- the lists gathered over all terms are kept as the entries of each column
pub gathered_kept : (p : Instance) (lists : List (List ColumnEntry)) → IsFormed p → AreGathered (all_terms p) (length p.columns) lists
    → AreKept p lists
gathered_kept p lists formed h = record {
  width = h.width;
  each = λ j there. subst (AreColumnEntries p j) (sym (h.each j there))
      (are_entries p j (entries_over j 0 (all_terms p)) (over_are j 0 (all_terms p) (all_apart p formed)));
}
