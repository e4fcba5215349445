-- The row made from a draft.
use Rattle.std.proofs.Common.{◌≡◌, ℕ, neg_ℤ, ◌<◌, ◌≤◌, cond, Bool, true, false, List, [], ◌∷◌, ◌++◌, length, Some, None, sym, refl, ap, ◌∙◌, arith}
use Rattle.std.proofs.lemmas.Bool.{false≢true}
use Rattle.std.proofs.lemmas.List.{same_lists, length-map, get_or-map, get_or_default}
use Rattle.ug_rows.specs.declared.row.Term.{Term}
use Rattle.ug_rows.specs.Rows.{term_at, no_term}
use Rattle.ug_rows.specs.declared.row.Objective as target
use Rattle.ug_problem.specs.declared.column.NamedRow.{NamedRow}
use Rattle.ug_drafts.specs.declared.made.Made.{Made}
use Rattle.ug_drafts.specs.declared.rows_and_objective.RowsAndObjective.{RowsAndObjective}
use Rattle.ug_drafts.specs.declared.row.RowDraft.{RowDraft}
use Rattle.ug_drafts.specs.declared.role.Role.{Role}
use Rattle.ug_drafts.specs.declared.role.Role.TheVariants as roles
use Rattle.ug_drafts.specs.Roles.{is_objective, is_ignored, is_sided}
use Rattle.ug_drafts.specs.RowNumbers.{is_wide, signed_terms}
use Rattle.ug_drafts.specs.Made.{numbers_kept, made_of, made_if, row_with, row_fault_kept, and_row}

-- the coefficients of the first i terms are negated
pub record IsNegatedTo (old : List Term) (i : ℕ) (now : List Term) : Type 0 where
  pub long : length now ≡ length old
  pub done : (k : ℕ) → k < i → term_at now k ≡ record { column = (term_at old k).column; factor = neg_ℤ (term_at old k).factor }
  pub left : (k : ℕ) → i ≤ k → term_at now k ≡ term_at old k

pub negated_all : (old now : List Term) (i : ℕ) → length old ≤ i → IsNegatedTo old i now → now ≡ signed_terms true old
negated_all old now i h n =
    let turn : Term → Term = λ t. record { column = t.column; factor = neg_ℤ t.factor } in
    same_lists now (signed_terms true old)
    (n.long ∙ sym (length-map old turn))
    (λ k d a.
    let in_old : k < length old = omega (arith, a, n.long) in
    get_or_default now k d no_term a ∙ n.done k (omega (arith, h, in_old)) ∙ sym (get_or-map turn old k no_term d in_old))

-- with no sign to turn the terms stay
pub signed_not : (terms : List Term) → terms ≡ signed_terms false terms
signed_not [] = refl
signed_not (t ∷ terms) = ap (λ ts. t ∷ ts) (signed_not terms)

-- a row that is made was not too wide
made_from : (w : Bool) (m m' : Made) → Some m ≡ cond w None (Some m') → (w ≡ false) × (m ≡ m')
made_from true m m' e = let bad : Some m ≡ None = e in absurd (cc)
made_from false m m' e = (refl, cc)

sided : (role : Role) → is_ignored role ≡ false → is_objective role ≡ false → is_sided role ≡ true
sided roles.Objective i o = absurd (false≢true (sym o))
sided roles.Ignored i o = absurd (false≢true (sym i))
sided roles.AtMost i o = refl
sided roles.AtLeast i o = refl
sided roles.Equal i o = refl

parts_same : (rs rs' : List NamedRow) (o : target.Objective) → rs ≡ rs' → (let a : RowsAndObjective = record { rows = rs; objective = o } in let b : RowsAndObjective = record { rows = rs'; objective = o } in a ≡ b)
parts_same rs rs' o e = cc

-- a row of the problem is taken
pub row_taken : (maximise : Bool) (name : List ℕ) (r : RowDraft) (old : RowsAndObjective) (m : Made) (rows : List NamedRow)
    → is_ignored r.role ≡ false → is_objective r.role ≡ false → Some m ≡ made_if r.role (numbers_kept r) → rows ≡ old.rows ++ row_with name m ∷ []
    → (row_fault_kept (name, r) ≡ None) × (let new : RowsAndObjective = record { rows = rows; objective = old.objective } in new ≡ and_row maximise old (name, r))
row_taken maximise name r old m rows i o e is =
    let made = made_from (is_wide r.role (numbers_kept r)) m (made_of r.role (numbers_kept r)) e in (
      rw (i, made.0) refl,
      rw (o, sided r.role i o) (parts_same rows _ old.objective (is ∙ ap (λ m. old.rows ++ row_with name m ∷ []) made.1)),
    )
