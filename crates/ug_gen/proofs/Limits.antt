-- The stated instance is within all limits of a problem.
use Rattle.std.proofs.Common.{◌≡◌, ◌≢◌, ℕ, zero, suc, pos, neg_ℤ, ◌+◌, ◌^◌, ◌<◌, ◌≤◌, List, [], ◌∷◌, length, refl, sym, subst, arith, inl, unsigned_abs}
use Rattle.std.specs.Prelude.{All, None, Some}
use Rattle.std.specs.Fmt.{decimal}
use Rattle.std.proofs.lemmas.Fmt.{decimal_is_IsNumeral, length-decimal-le}
use Rattle.std.proofs.lemmas.Str.Parse.{digit_at}
use Rattle.std.proofs.lemmas.List.Elements.{All-nil, All-cons, All-from_get_or}
use Rattle.std.proofs.lemmas.List.Sums.{sum_by-le}
use Rattle.ug_rows.specs.declared.row.Term.{Term}
use Rattle.ug_rows.specs.Rows.{no_term}
use Rattle.ug_problem.specs.Instances.{instance_of, IsFormed, IsName, IsWordByte, IsColumn, IsRow, AreTerms, no_row}
use Rattle.ug_problem.specs.Limits.{IsProblem, IsRefused, FitsCounts, IsNarrow, IsNarrowObjective}
use Rattle.ug_problem.specs.declared.column.Column.{Column}
use Rattle.ug_problem.specs.declared.column.NamedRow.{NamedRow}
use Rattle.ug_rows.specs.declared.row.Objective.{Objective}
use Rattle.ug_problem.specs.declared.error.ProblemError.{ProblemError}
use Rattle.ug_problem.specs.declared.error.ProblemError.TheVariants.{Memory, TooMany, TooWide}
use Rattle.ug_gen.specs.Draws.{each}
use Rattle.ug_gen.specs.Stated.{column, instance, named, objective, profit, profit_term, row, weight, weight_term}
use Rattle.ug_gen.proofs.Rules.{all_each, at_each, length_each}

-- a letter and a number make a name
named_is_name : (letter n : ℕ) → 33 ≤ letter → letter ≤ 126 → n < 100 → IsName (named letter n)
named_is_name letter n low high small =
    let digits = (decimal_is_IsNumeral n (omega arith)).0.1 in
    let short : length (decimal n) ≤ 2 = length-decimal-le 2 n (omega arith) (omega arith) (omega arith) in
    record {
      some = omega arith;
      short = omega arith;
      bytes = All-cons IsWordByte letter (decimal n) (inl (low, high))
          (All-from_get_or IsWordByte (decimal n) 0 (λ i h.
          let digit = digit_at (decimal n) i digits h in inl (omega arith, omega arith)));
    }

column_is_column : (j : ℕ) → j < 40 → IsColumn (column j)
column_is_column j h = record {
  name = named_is_name 67 (j + 1) (omega arith) (omega arith) (omega arith);
  low = omega arith;
  high = omega arith;
}

-- a rule that gives column j a term with a coefficient that is not 0 makes the terms of a row
each_are_terms : (rule : ℕ → Term) → (size : ℕ) → ((j : ℕ) → (rule j).column ≡ j)
    → ((j : ℕ) → (rule j).factor ≢ pos 0) → AreTerms size (each rule size)
each_are_terms rule size named nonzero = record {
  rising = λ i k h within.
      let here : k < size = omega (arith, length_each rule size) in
      rw (at_each rule size i no_term (omega arith), at_each rule size k no_term here, named i, named k) h;
  within = λ k within.
      let here : k < size = omega (arith, length_each rule size) in
      rw (at_each rule size k no_term here, named k) here;
  nonzero = λ k within.
      let here : k < size = omega (arith, length_each rule size) in
      rw (at_each rule size k no_term here) (nonzero k);
}

negated_size : (n : ℕ) → unsigned_abs (neg_ℤ (pos n)) ≡ n
negated_size zero = refl
negated_size (suc n) = refl

negated_is_not_zero : (n : ℕ) → 0 < n → neg_ℤ (pos n) ≢ pos 0
negated_is_not_zero zero h e = absurd (omega arith)
negated_is_not_zero (suc n) h e = cc

positive_is_not_zero : (n : ℕ) → 0 < n → pos n ≢ pos 0
positive_is_not_zero zero h e = absurd (omega arith)
positive_is_not_zero (suc n) h e = cc

row_terms : (seed size r : ℕ) → AreTerms size (each (weight_term seed r) size)
row_terms seed size r = each_are_terms (weight_term seed r) size (λ j. refl)
    (λ j. positive_is_not_zero (weight seed r j) (omega arith))

objective_terms : (seed size : ℕ) → AreTerms size (each (profit_term seed) size)
objective_terms seed size = each_are_terms (profit_term seed) size (λ j. refl)
    (λ j. negated_is_not_zero (profit seed j) (omega arith))

row_is_row : (seed size r : ℕ) → r < 100 → IsRow size (row seed size r)
row_is_row seed size r small = record {
  name = named_is_name 82 r (omega arith) (omega arith) small;
  terms = row_terms seed size r;
}

weight_small : (seed r j : ℕ) → weight seed r j ≤ 50
weight_small seed r j = omega arith

row_is_narrow : (seed size r : ℕ) → size ≤ 40 → IsNarrow (row seed size r).row
row_is_narrow seed size r small =
    let most = sum_by-le (λ x. x) 50 (each (weight seed r) size)
    (all_each (λ x. x ≤ 50) (weight seed r) size (λ j h. weight_small seed r j)) in
    record {
      factors = all_each (λ (t : Term). unsigned_abs t.factor ≤ 10 ^ 24) (weight_term seed r) size
          (λ j h. omega (arith, weight_small seed r j));
      low = tt;
      high = omega (arith, most, length_each (weight seed r) size);
    }

objective_is_narrow : (seed size : ℕ) → IsNarrowObjective (objective seed size)
objective_is_narrow seed size = record {
  factors = all_each (λ (t : Term). unsigned_abs t.factor ≤ 10 ^ 24) (profit_term seed) size
      (λ j h. rw (negated_size (profit seed j)) (omega arith));
  constant = omega arith;
}

counts_fit : (seed size : ℕ) → size ≤ 40 → FitsCounts (instance seed size)
counts_fit seed size small = record {
  columns = omega (arith, length_each column size);
  rows = omega arith;
  terms = omega (
    arith,
    length_each (weight_term seed 1) size,
    length_each (weight_term seed 2) size,
    length_each (weight_term seed 3) size,
    length_each (profit_term seed) size,
  );
}

three_rows : (P : NamedRow → Type 0) (a b c : NamedRow) → P a → P b → P c → All P (a ∷ b ∷ c ∷ [])
three_rows P a b c pa pb pc =
    All-cons P a (b ∷ c ∷ []) pa (All-cons P b (c ∷ []) pb (All-cons P c [] pc (All-nil P)))

pub instance_is_formed : (seed size : ℕ) → size ≤ 40 → IsFormed (instance seed size)
instance_is_formed seed size small =
    let width = sym (length_each column size) in
    record {
      columns = all_each IsColumn column size (λ j h. column_is_column j (omega arith));
      rows = subst (λ w. All (IsRow w) (instance seed size).rows) width
          (three_rows (IsRow size) (row seed size 1) (row seed size 2) (row seed size 3)
          (row_is_row seed size 1 (omega arith)) (row_is_row seed size 2 (omega arith))
          (row_is_row seed size 3 (omega arith)));
      objective = subst (λ w. AreTerms w (objective seed size).terms) width (objective_terms seed size);
      scale = omega arith;
    }

pub instance_is_problem : (seed size : ℕ) → size ≤ 40 → IsProblem (instance seed size)
instance_is_problem seed size small = record {
  formed = instance_is_formed seed size small;
  counts = counts_fit seed size small;
  rows = λ i h. three_rows (λ r. IsNarrow r.row) (row seed size 1) (row seed size 2) (row seed size 3)
      (row_is_narrow seed size 1 small) (row_is_narrow seed size 2 small)
      (row_is_narrow seed size 3 small) i no_row h;
  objective = objective_is_narrow seed size;
}

-- only memory can be wanting
pub only_memory : (seed size : ℕ) (e : ProblemError) → IsRefused (instance seed size) e → size ≤ 40 → e ≡ Memory
only_memory seed size Memory r small = refl
only_memory seed size TooMany r small = absurd (r (counts_fit seed size small))
only_memory seed size (TooWide None) r small = absurd (r.objective (objective_is_narrow seed size))
only_memory seed size (TooWide (Some k)) r small =
    absurd (r.row.wide ((instance_is_problem seed size small).rows k r.row.there))

-- stated parts are the stated instance
pub parts_are_instance : (seed size : ℕ) (columns : List Column) (rows : List NamedRow) (made : Objective)
    → columns ≡ (instance seed size).columns → rows ≡ (instance seed size).rows
    → made ≡ objective seed size → instance_of columns rows made ≡ instance seed size
parts_are_instance seed size columns rows made e f g = rw (e, f, g) refl
