-- The objective's coefficient of a column, and its sums where the column has another interval.
use Rattle.std.proofs.Common.{◌≡◌, ◌≢◌, subst, sym, ◌∙◌, ap, inl, inr, ℕ, ◌-◌, ◌<◌, ◌≤◌, List, [], length, None, arith}
use Rattle.std.proofs.lemmas.Bool.{cases_lt}
use Rattle.ug_rows.specs.declared.row.Term.{Term}
use Rattle.ug_rows.specs.Rows.{IsAmong, term_at}
use Rattle.ug_rows.proofs.Replaced.{among_at}
use Rattle.ug_problem.specs.declared.entries.ColumnEntry.{ColumnEntry}
use Rattle.ug_problem.specs.Instances.{Instance}
use Rattle.ug_problem.specs.ColumnEntries.{AreColumnEntries, entry_at, term_of, terms_of}
use Rattle.ug_propagate.specs.Running.{IsObjectiveEntry}
use Rattle.ug_propagate.proofs.Running.{named_last}

-- the last standing is that in the objective
pub factor_there : (p : Instance) (j : ℕ) (list : List ColumnEntry) (last : ColumnEntry) → AreColumnEntries p j list → 0 < length list
    → last ≡ entry_at list (length list - 1) → last.row ≡ length p.rows
    → IsAmong (term_of j last) p.objective.terms
factor_there p j list last are some same row =
    let k : ℕ = length list - 1 in
    let within : k < length list = omega arith in
    let at : (entry_at list k).row ≡ length p.rows = sym (ap (λ (s : ColumnEntry). s.row) same) ∙ row in
    let P : ℕ → Type 0 = λ (r : ℕ). IsAmong (term_of j (entry_at list k)) (terms_of p r) in
    let Q : List Term → Type 0 = λ (ts : List Term). IsAmong (term_of j (entry_at list k)) ts in
    let R : ColumnEntry → Type 0 = λ (s : ColumnEntry). IsAmong (term_of j s) p.objective.terms in
    subst R (sym same) (subst Q (named_last p) (subst P at (are.each k within)))

not_after : (p : Instance) (j : ℕ) (list : List ColumnEntry) (i : ℕ) → AreColumnEntries p j list → i < length list
    → (entry_at list i).row ≡ length p.rows → (entry_at list (length list - 1)).row ≡ length p.rows
not_after p j list i are there at = elim (cases_lt i (length list - 1)) [
  | inl less ↦ absurd (
      let rise : (entry_at list i).row < (entry_at list (length list - 1)).row = are.rising i (length list - 1) less (omega arith) in
      let most : (entry_at list (length list - 1)).row ≤ length p.rows = are.within (length list - 1) (omega arith) in
      omega arith)
  | inr last ↦ let e : length list - 1 ≡ i = omega arith in ap (λ (n : ℕ). (entry_at list n).row) e ∙ at
]

-- or there is none
pub factor_other : (p : Instance) (j : ℕ) (list : List ColumnEntry) (last : ColumnEntry) → AreColumnEntries p j list
    → last ≡ entry_at list (length list - 1) → last.row ≢ length p.rows → IsObjectiveEntry p j None
factor_other p j list last are same ne k there column =
    let t : Term = term_at p.objective.terms k in
    let Q : List Term → Type 0 = λ (ts : List Term). IsAmong t ts in
    let among : IsAmong t (terms_of p (length p.rows)) = subst Q (sym (named_last p)) (among_at p.objective.terms k there) in
    let at = are.all (length p.rows) t among column in
    ne (ap (λ (s : ColumnEntry). s.row) same ∙ not_after p j list at.0 are at.1 at.2)

pub factor_none : (p : Instance) (j : ℕ) (list : List ColumnEntry) → AreColumnEntries p j list → list ≡ [] → IsObjectiveEntry p j None
factor_none p j list are empty k there column =
    let t : Term = term_at p.objective.terms k in
    let Q : List Term → Type 0 = λ (ts : List Term). IsAmong t ts in
    let among : IsAmong t (terms_of p (length p.rows)) = subst Q (sym (named_last p)) (among_at p.objective.terms k there) in
    let at = are.all (length p.rows) t among column in
    let none : length list ≡ 0 = ap (λ (xs : List ColumnEntry). length xs) empty in
    absurd (omega (arith, at.1, none))
