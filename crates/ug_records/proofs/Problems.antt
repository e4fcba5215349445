-- What a record is read of is a problem, and every problem is read.
use Rattle.std.proofs.Common.{◌≡◌, ◌≢◌, ℕ, ℤ, pos, negsuc, zero, suc, ◌+◌, ◌-◌, ◌^◌, ◌<◌, ◌≤◌, List, [], ◌∷◌, length, refl, ap, arith, unsigned_abs, sum_by}
use Rattle.std.specs.Prelude.{slice_index_or}
use Rattle.std.specs.List.{All}
use Rattle.std.proofs.lemmas.List.Sums.{sum_by-cons}
use Rattle.ug_rows.specs.declared.row.Term.{Term}
use Rattle.ug_rows.specs.Rows.{no_term, term_at}
use Rattle.ug_problem.specs.declared.column.NamedRow.{NamedRow}
use Rattle.ug_problem.specs.Instances.{Instance, AreTerms, IsColumn, IsRow, no_row}
use Rattle.ug_problem.specs.Limits.{IsProblem, AreSmall, IsNarrow}
use Rattle.ug_fields.proofs.Parts.{head_of, tail_of}
use Rattle.ug_fields.proofs.Runs.{Chain, after_all}
use Rattle.ug_records.proofs.Composed.{IsNext}
use Rattle.ug_records.proofs.Larger.{past, AreRead, IsReadRow}
use Rattle.ug_records.proofs.Entire.{same, less, left_by, Whole}

-- each value of a chain is good where it stands
chain_at : {S X : Type 0} → (Good : S → X → Type 0) (after : S → X → S) (state : S) (xs : List X)
    → Chain Good after state xs → (k : ℕ) (d : X) → k < length xs
    → (s : S) × Good s (slice_index_or xs k d)
unfolding Chain
chain_at Good after state [] c k d here = absurd (omega (arith, here))
chain_at Good after state (x ∷ xs) c zero d here = (state, c.0)
chain_at Good after state (x ∷ xs) c (suc k) d here = chain_at Good after (after state x) xs c.1 k d
    (omega (arith, here))

all_chain : {S X : Type 0} → (P : X → Type 0) (after : S → X → S) (state : S) (xs : List X)
    → All P xs → Chain (λ (s : S). P) after state xs
unfolding Chain
all_chain P after state [] all = tt
all_chain P after state (x ∷ xs) all = (
  head_of P x xs all,
  all_chain P after (after state x) xs
      (tail_of P x xs all),
)

-- ---- terms

chain_least : (width least : ℕ) (terms : List Term) → Chain (IsNext width) past least terms
    → (k : ℕ) → k < length terms → least ≤ (term_at terms k).column
unfolding Chain
chain_least width least [] c k here = absurd (omega (arith, here))
chain_least width least (t ∷ terms) c zero here = c.0.behind
chain_least width least (t ∷ terms) c (suc k) here =
    let behind = chain_least width (t.column + 1) terms c.1 k (omega (arith, here)) in
    omega (arith, behind, c.0.behind)

rises : (width least : ℕ) (terms : List Term) → Chain (IsNext width) past least terms
    → (i k : ℕ) → i < k → k < length terms → (term_at terms i).column < (term_at terms k).column
unfolding Chain
rises width least [] c i k before here = absurd (omega (arith, here))
rises width least (t ∷ terms) c i zero before here = absurd (omega (arith, before))
rises width least (t ∷ terms) c zero (suc k) before here =
    let behind = chain_least width (t.column + 1) terms c.1 k (omega (arith, here)) in
    omega (arith, behind)
rises width least (t ∷ terms) c (suc i) (suc k) before here =
    rises width (t.column + 1) terms c.1 i k (omega (arith, before)) (omega (arith, here))

read_terms : (width room : ℕ) (terms : List Term) → AreRead width room terms → AreTerms width terms
read_terms width room terms are = record {
  rising = rises width 0 terms are.chain;
  within = λ k here. let at = chain_at (IsNext width) past 0 terms are.chain k no_term here in
      at.1.there;
  nonzero = λ k here e.
      let at = chain_at (IsNext width) past 0 terms are.chain k no_term here in
      omega (arith, at.1.some, ap unsigned_abs e);
}

read_small : (width room : ℕ) (terms : List Term) → AreRead width room terms → AreSmall terms
read_small width room terms are = λ k d here.
    let at = chain_at (IsNext width) past 0 terms are.chain k d here in at.1.small

not_zero : (z : ℤ) → z ≢ pos 0 → 1 ≤ unsigned_abs z
not_zero (pos zero) h = absurd (h refl)
not_zero (pos (suc n)) h = omega arith
not_zero (negsuc n) h = omega arith

fewer_terms : (width : ℕ) (t : Term) (terms : List Term) → AreTerms width (t ∷ terms)
    → AreTerms width terms
fewer_terms width t terms are = record {
  rising = λ i k before here. are.rising (suc i) (suc k) (omega (arith, before))
      (omega (arith, here));
  within = λ k here. are.within (suc k) (omega (arith, here));
  nonzero = λ k here. are.nonzero (suc k) (omega (arith, here));
}

terms_chain : (width least : ℕ) (terms : List Term) → width ≤ 10 ^ 4
    → ((k : ℕ) → k < length terms → least ≤ (term_at terms k).column)
    → AreTerms width terms → AreSmall terms → Chain (IsNext width) past least terms
unfolding Chain
terms_chain width least [] narrow behind are small = tt
terms_chain width least (t ∷ terms) narrow behind are small = (
  record {
    behind = behind 0 (omega arith);
    there = are.within 0 (omega arith);
    short = omega (arith, are.within 0 (omega arith), narrow);
    some = not_zero t.factor (are.nonzero 0 (omega arith));
    small = head_of (λ (t : Term). unsigned_abs t.factor ≤ 10 ^ 24) t terms small;
  },
  terms_chain width (t.column + 1) terms narrow
      (λ k here. let more = are.rising 0 (suc k) (omega arith) (omega (arith, here)) in omega
      (arith, more))
      (fewer_terms width t terms are) (tail_of (λ (t : Term). unsigned_abs t.factor ≤ 10 ^ 24) t
      terms small),
)

terms_read : (width room : ℕ) (terms : List Term) → width ≤ 10 ^ 4 → room ≤ 10 ^ 6
    → length terms ≤ room
    → AreTerms width terms → AreSmall terms → AreRead width room terms
terms_read width room terms narrow most few are small = record {
  few = few;
  short = omega (arith, few, most);
  chain = terms_chain width 0 terms narrow (λ k here. omega arith) are small;
}

-- ---- rows

abbrev size_of : NamedRow → ℕ
size_of row = length row.row.terms

left_is : (room : ℕ) (rows : List NamedRow) → after_all less room rows ≡ room - sum_by size_of rows
unfolding after_all
left_is room [] = omega arith
left_is room (row ∷ rows) = omega (
  arith,
  left_is (room - size_of row) rows,
  sum_by-cons size_of row
      rows,
)

rows_fit : (width room : ℕ) (rows : List NamedRow) → Chain (IsReadRow width) less room rows
    → sum_by size_of rows ≤ room
unfolding Chain
rows_fit width room [] c = omega arith
rows_fit width room (row ∷ rows) c = omega (
  arith,
  rows_fit width (room - size_of row) rows c.1,
  c.0.terms.few,
  sum_by-cons size_of row rows,
)

rows_chain : (width room : ℕ) (rows : List NamedRow) → width ≤ 10 ^ 4 → room ≤ 10 ^ 6
    → sum_by size_of rows ≤ room
    → All (IsRow width) rows
    → ((i : ℕ) → i < length rows → IsNarrow (slice_index_or rows i no_row).row)
    → Chain (IsReadRow width) less room rows
unfolding Chain
rows_chain width room [] narrow most fits are low = tt
rows_chain width room (row ∷ rows) narrow most fits are low =
    let one = head_of (IsRow width) row rows are in
    let sides : IsNarrow row.row = low 0 (omega arith) in (
      record {
        name = one.name;
        low = sides.low;
        high = sides.high;
        terms = terms_read width room row.row.terms narrow most
            (omega (arith, fits, sum_by-cons size_of row rows)) one.terms sides.factors;
      },
      rows_chain width (room - size_of row) rows narrow (omega (arith, most))
          (omega (arith, fits, sum_by-cons size_of row rows))
          (tail_of (IsRow width) row rows are) (λ i here. low (suc i) (omega (arith, here))),
    )

-- ---- problems

pub whole_is_problem : (p : Instance) → Whole p → IsProblem p
whole_is_problem p whole =
    let width = length p.columns in
    let columns = whole.1.1.0.1 in
    let rows = whole.1.1.1.1.0.1 in
    let objective = whole.1.1.1.1.1.0 in
    let row_at : (k : ℕ) (d : NamedRow) → k < length p.rows → (s : ℕ) × IsReadRow (length p.columns)
    s (slice_index_or p.rows k d)
    = chain_at (IsReadRow (length p.columns)) less (10 ^ 6) p.rows rows in
    record {
      formed = record {
        columns = λ k d here. let at = chain_at (λ (s : Unit {0}). IsColumn) same tt p.columns
            columns k d here in at.1;
        rows = λ k d here. let at = row_at k d here in record {
          name = at.1.name;
          terms = read_terms (length p.columns) at.0 _ at.1.terms;
        };
        objective = read_terms (length p.columns) (left_by p.rows) p.objective.terms
            objective.terms;
        scale = objective.scale;
      };
      counts = record {
        columns = whole.1.0.0;
        rows = whole.1.1.1.0.0;
        terms = omega (
          arith,
          objective.terms.few,
          left_is (10 ^ 6) p.rows,
          rows_fit
              (length p.columns) (10 ^ 6) p.rows rows,
        );
      };
      rows = λ i here. let at = row_at i no_row here in record {
        factors = read_small (length p.columns) at.0 _ at.1.terms;
        low = at.1.low;
        high = at.1.high;
      };
      objective = record {
        factors = read_small (length p.columns) (left_by p.rows) p.objective.terms objective.terms;
        constant = objective.constant;
      };
    }

pub problem_is_whole : (p : Instance) → IsProblem p → Whole p
problem_is_whole p is = (
  tt,
  (
    (is.counts.columns, omega (arith, is.counts.columns)),
    (
      (refl, all_chain IsColumn same tt p.columns is.formed.columns, refl),
      (
        (is.counts.rows, omega (arith, is.counts.rows)),
        (
          (
            refl,
            rows_chain (length p.columns) (10 ^ 6) p.rows is.counts.columns (omega arith)
                (omega (arith, is.counts.terms)) is.formed.rows is.rows,
            refl,
          ),
          (
            record {
              scale = is.formed.scale;
              constant = is.objective.constant;
              terms = terms_read (length p.columns) (left_by p.rows) p.objective.terms
                  is.counts.columns
                  (omega (arith, left_is (10 ^ 6) p.rows))
                  (omega (arith, left_is (10 ^ 6) p.rows, is.counts.terms))
                  is.formed.objective is.objective.factors;
            },
            tt,
          ),
        ),
      ),
    ),
  ),
)
