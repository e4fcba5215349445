-- What a draft says once all lines are taken.
use Rattle.std.proofs.Common.{◌≡◌, ℕ, List, map, All, Option, None, Result, Ok, Err, MatchResult, sym, refl, ap, subst, ◌∙◌}
use Rattle.std.specs.List.{zip}
use Rattle.std.specs.Result.{IsErrAnd}
use Rattle.ug_rows.specs.declared.row.Objective as target
use Rattle.ug_problem.specs.declared.column.Column.{Column}
use Rattle.ug_problem.specs.declared.column.NamedRow.{NamedRow}
use Rattle.ug_problem.specs.Instances.{Instance, instance_of}
use Rattle.ug_drafts.specs.declared.column.ColumnDraft.{ColumnDraft}
use Rattle.ug_drafts.specs.declared.rows_and_objective.RowsAndObjective.{RowsAndObjective}
use Rattle.ug_drafts.specs.declared.row.RowDraft.{RowDraft}
use Rattle.ug_drafts.specs.declared.fault.MpsError.{MpsError}
use Rattle.ug_drafts.specs.declared.fault.MpsError.TheVariants.{Memory, Fault}
use Rattle.ug_drafts.specs.declared.fault.MpsFault.{MpsFault}
use Rattle.ug_drafts.specs.FirstFaults.{IsOf, or_else, first_fault}
use Rattle.ug_drafts.specs.Bounds.{IsBox}
use Rattle.ug_drafts.specs.Made.{column_fault_kept, made_column, HasDecimals, row_fault_kept, rows_and_objective}
use Rattle.ug_mps.specs.declared.draft.Draft.{Draft}
use Rattle.ug_mps.specs.Drafts.{Drafts}
use Rattle.ug_mps.specs.Entries.{Entry}
use Rattle.ug_mps.specs.Finish.{IsEndFault, AreStated}
use Rattle.ug_mps.specs.History.{rows_of, columns_of}
use Rattle.ug_mps.specs.Reads.{column_fault, row_fault, end_fault}
use Rattle.ug_mps.specs.Stated.{stated_column, stated}
use Rattle.ug_mps.proofs.FinishLemmas.{columns_fault, columns_stated, rows_fault, rows_stated, drafts_decimal, objective_stated}

-- ---- errors

-- the problem is the one stated, or the error is the first fault
abbrev pub Ends : Option ℕ → List Entry → Result Instance MpsError → Type 0
Ends boxed h result = MatchResult result (λ p. (end_fault boxed h ≡ None) × (p ≡ stated boxed h)) (IsEndFault boxed h)

of_columns : (a b : Option MpsFault) (e : MpsError) → IsOf a e → IsOf (or_else a b) e
of_columns a b Memory is = tt
of_columns a b (Fault f) is = rw is refl

of_rows : (a b : Option MpsFault) (e : MpsError) → a ≡ None → IsOf b e → IsOf (or_else a b) e
of_rows a b Memory n is = tt
of_rows a b (Fault f) n is = rw n is

passed_on : (boxed : Option ℕ) (h : List Entry) (r : Result Instance MpsError) (e : MpsError) → IsErrAnd r (λ x. x ≡ e) → IsEndFault boxed h e → Ends boxed h r
passed_on boxed h (Ok p) e is fault = absurd is
passed_on boxed h (Err x) e is fault = subst (IsEndFault boxed h) (sym is) fault

instance_same : (cs cs' : List Column) (rs rs' : List NamedRow) (o o' : target.Objective) → cs ≡ cs' → rs ≡ rs' → o ≡ o' → instance_of cs rs o ≡ instance_of cs' rs' o'
instance_same cs cs' rs rs' o o' a b c = cc

-- ---- what columns and rows say

-- no column has a fault, and the columns are those stated
pub record AreColumnsStated (boxed : Option ℕ) (h : List Entry) (columns : List Column) : Type 0 where
  pub none : first_fault (column_fault boxed h) (columns_of h) ≡ None
  pub made : columns ≡ map (stated_column boxed h) (columns_of h)

-- the names and what is kept of the columns
module _ (boxed : Option ℕ) (h : List Entry) (d : Draft) (drafts : Drafts h d)
    (names : List (List ℕ)) (kept : List ColumnDraft) (are_names : names ≡ d.columns.names) (are_kept : kept ≡ d.columns.drafts) where
  same_fault : first_fault (column_fault_kept boxed) (zip names kept) ≡ first_fault (column_fault boxed h) (columns_of h)
  same_fault = rw (are_names, are_kept) (columns_fault boxed h d.columns drafts.columns)

  pub columns_good : (columns : List Column) → (first_fault (column_fault_kept boxed) (zip names kept) ≡ None) × (columns ≡ map (made_column boxed) (zip names kept)) → AreColumnsStated boxed h columns
  columns_good columns good = record {
    none = sym same_fault ∙ good.0;
    made = good.1 ∙ rw (are_names, are_kept) (columns_stated boxed h d.columns drafts.columns);
  }

  pub columns_bad : (e : MpsError) (r : Result Instance MpsError) → IsOf (first_fault (column_fault_kept boxed) (zip names kept)) e → IsErrAnd r (λ x. x ≡ e) → Ends boxed h r
  columns_bad e r is same =
      passed_on boxed h r e same (of_columns (first_fault (column_fault boxed h) (columns_of h)) (first_fault (row_fault h) (rows_of h)) e (subst (λ f. IsOf f e) same_fault is))

-- the names and what is kept of the rows
module _ (boxed : Option ℕ) (h : List Entry) (d : Draft) (drafts : Drafts h d)
    (names : List (List ℕ)) (kept : List RowDraft) (are_names : names ≡ d.rows.names) (are_kept : kept ≡ d.rows.drafts) where
  same_row_fault : first_fault row_fault_kept (zip names kept) ≡ first_fault (row_fault h) (rows_of h)
  same_row_fault = rw (are_names, are_kept) (rows_fault h d.rows drafts.rows)

  pub rows_decimal : All HasDecimals kept
  rows_decimal = subst (λ (ds : List RowDraft). All HasDecimals ds) (sym are_kept) (drafts_decimal h d.rows drafts.good drafts.rows)

  pub rows_bad : (columns : List Column) → AreColumnsStated boxed h columns → (e : MpsError) (r : Result Instance MpsError)
      → IsOf (first_fault row_fault_kept (zip names kept)) e → IsErrAnd r (λ x. x ≡ e) → Ends boxed h r
  rows_bad columns c e r is same =
      passed_on boxed h r e same (of_rows (first_fault (column_fault boxed h) (columns_of h)) (first_fault (row_fault h) (rows_of h)) e c.none (subst (λ f. IsOf f e) same_row_fault is))

  pub rows_good : IsBox boxed → (columns : List Column) → AreColumnsStated boxed h columns
      → (parts : RowsAndObjective) → (first_fault row_fault_kept (zip names kept) ≡ None) × (parts ≡ rows_and_objective d.maximise (zip names kept)) → AreStated boxed h (instance_of columns parts.rows parts.objective)
  rows_good b columns c parts good = record {
    good = drafts.good;
    box = b;
    none = rw (c.none, ← same_row_fault) good.0;
    parts = instance_same columns _ parts.rows _ parts.objective _ c.made
        (ap (λ (p : RowsAndObjective). p.rows) good.1 ∙ rw (are_names, are_kept) (rows_stated h d.rows drafts.rows))
        (ap (λ (p : RowsAndObjective). p.objective) good.1 ∙ rw (are_names, are_kept) (objective_stated d.maximise h d.rows drafts.maximise drafts.rows));
  }

pub stated_end : (boxed : Option ℕ) (h : List Entry) (parts : Instance) (r : Result Instance MpsError) → AreStated boxed h parts → MatchResult r (λ p. p ≡ parts) (λ e. e ≡ Memory) → Ends boxed h r
stated_end boxed h parts (Ok p) s is = (s.none, is ∙ s.parts)
stated_end boxed h parts (Err e) s is = subst (IsEndFault boxed h) (sym is) tt
