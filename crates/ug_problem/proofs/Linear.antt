-- What a problem's rows and its objective are: linear over its columns.
use Rattle.std.proofs.Common.{◌≤◌, ◌<◌, ◌^◌, ℕ, List, length, slice_index_or, unsigned_abs}
use Rattle.std.proofs.lemmas.List.Elements.{All-get_or}
use Rattle.ug_rows.specs.declared.row.Term.{Term}
use Rattle.ug_rows.specs.Rows.{IsLinear, no_term}
use Rattle.ug_problem.specs.Instances.{Instance, IsRow, AreTerms, no_row, row_at}
use Rattle.ug_problem.specs.Limits.{AreSmall, IsProblem}

-- no coefficient is above 10^24, term by term
each_small : (terms : List Term) (k : ℕ) → AreSmall terms → k < length terms
    → unsigned_abs (slice_index_or terms k no_term).factor ≤ 10 ^ 24
each_small terms k small there =
    All-get_or (λ (t : Term). unsigned_abs t.factor ≤ 10 ^ 24) terms k no_term there small

linear_terms : (width : ℕ) (terms : List Term) → width ≤ 10 ^ 4 → AreTerms width terms → AreSmall terms
    → IsLinear width terms
linear_terms width terms few formed small = record {
  few = few;
  rising = formed.rising;
  within = formed.within;
  small = λ k there. each_small terms k small there;
}

-- each row of a problem is linear over its columns
pub linear_row : (p : Instance) (r : ℕ) → IsProblem p → r < length p.rows
    → IsLinear (length p.columns) (row_at p r).terms
linear_row p r problem there =
    let formed : IsRow (length p.columns) (slice_index_or p.rows r no_row) =
    All-get_or (IsRow (length p.columns)) p.rows r no_row there problem.formed.rows in
    linear_terms (length p.columns) (row_at p r).terms problem.counts.columns formed.terms
    (problem.rows r there).factors

-- the objective of a problem is linear over its columns
pub linear_objective : (p : Instance) → IsProblem p → IsLinear (length p.columns) p.objective.terms
linear_objective p problem =
    linear_terms (length p.columns) p.objective.terms problem.counts.columns problem.formed.objective
    problem.objective.factors
