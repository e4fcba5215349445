-- All columns and all rows, as far as they are made.
use Rattle.std.proofs.Common.{◌≡◌, ℕ, zero, suc, ◌<◌, cond, Bool, true, false, List, [], ◌∷◌, ◌++◌, length, get_or, take, map, filter, Option, Some, None, Result, Ok, Err, MatchResult, sym, refl, ap, subst, ◌∙◌, arith, ◌⊎◌, inl, inr, ⊎_elim}
use Rattle.std.specs.Result.{IsErrAnd}
use Rattle.std.proofs.lemmas.List.{append-nil, map_push}
use Rattle.std.proofs.lemmas.List.Elements.{filter-append}
use Rattle.ug_rows.specs.declared.row.Objective as target
use Rattle.ug_problem.specs.declared.column.Column.{Column}
use Rattle.ug_drafts.specs.declared.column.ColumnDraft.{ColumnDraft}
use Rattle.ug_drafts.specs.declared.rows_and_objective.RowsAndObjective.{RowsAndObjective}
use Rattle.ug_drafts.specs.declared.row.RowDraft.{RowDraft}
use Rattle.ug_drafts.specs.declared.fault.MpsError.{MpsError}
use Rattle.ug_drafts.specs.declared.fault.MpsError.TheVariants.{Memory, Fault}
use Rattle.ug_drafts.specs.declared.fault.MpsFault.{MpsFault}
use Rattle.ug_problem.specs.declared.column.NamedRow.{NamedRow}
use Rattle.ug_drafts.specs.FirstFaults.{first_fault, IsOf}
use Rattle.ug_drafts.specs.RowNumbers.{no_objective}
use Rattle.ug_drafts.proofs.SideBySide.{IsTurn}
use Rattle.ug_drafts.specs.Made.{column_fault_kept, made_column, row_fault_kept, made_row, is_made, made_rows, objective_and, last_objective, rows_and_objective, and_row}

-- ---- the first fault

pub none_push : {X : Type 0} (fault : X → Option MpsFault) (xs : List X) (x : X) → first_fault fault xs ≡ None → fault x ≡ None → first_fault fault (xs ++ x ∷ []) ≡ None
none_push fault [] x n e = rw e refl
none_push fault (y ∷ xs) x n e = ⊎_elim
    (λ (p : fault y ≡ None). rw p (none_push fault xs x (rw p at n) e))
    (λ (p : (f : MpsFault) × (fault y ≡ Some f)). let bad : Some p.0 ≡ None = rw p.1 at n in absurd (cc))
    (elim (fault y) as (λ o. (o ≡ None) ⊎ ((f : MpsFault) × (o ≡ Some f))) [ None ↦ inl refl | Some f ↦ inr (f, refl) ])

-- if the items before it have none, it is that of the item
pub first_at : {X : Type 0} (fault : X → Option MpsFault) (xs : List X) (k : ℕ) (x : X) (f : MpsFault) → k < length xs → first_fault fault (take k xs) ≡ None → x ≡ get_or xs k x → fault x ≡ Some f → first_fault fault xs ≡ Some f
first_at fault [] k x f a n g e = absurd (omega (arith, a))
first_at fault (y ∷ xs) zero x f a n g e = let same : fault y ≡ Some f = ap fault (sym g) ∙ e in rw same refl
first_at fault (y ∷ xs) (suc k) x f a n g e = ⊎_elim
    (λ (p : fault y ≡ None). rw p (first_at fault xs k x f (omega (arith, a)) (rw p at n) g e))
    (λ (p : (f : MpsFault) × (fault y ≡ Some f)). let bad : Some p.0 ≡ None = rw p.1 at n in absurd (cc))
    (elim (fault y) as (λ o. (o ≡ None) ⊎ ((f : MpsFault) × (o ≡ Some f))) [ None ↦ inl refl | Some f ↦ inr (f, refl) ])

-- ---- columns

-- the columns so far have no fault, and are made
pub record AreColumnsMade (boxed : Option ℕ) (ps : List (List ℕ × ColumnDraft)) (columns : List Column) : Type 0 where
  pub none : first_fault (column_fault_kept boxed) ps ≡ None
  pub made : columns ≡ map (made_column boxed) ps

-- ---- rows

-- the rows so far have no fault, and are made
pub record AreRowsMade (maximise : Bool) (ps : List (List ℕ × RowDraft)) (parts : RowsAndObjective) : Type 0 where
  pub none : first_fault row_fault_kept ps ≡ None
  pub made : parts ≡ rows_and_objective maximise ps

-- ---- the steps of both passes

-- a fault of the next pair is the first
pub fault_of_turn : {P : Type 0} (fault : P → Option MpsFault) (all before : List P) (p : P) (f : MpsFault) → first_fault fault before ≡ None → IsTurn all before p → fault p ≡ Some f → first_fault fault all ≡ Some f
fault_of_turn fault all before p f n turn e = first_at fault all (length before) p f turn.there (ap (first_fault fault) (sym turn.before_it) ∙ n) turn.next e

-- an error at the next pair is one of all of them
pub error_of_turn : {P : Type 0} (fault : P → Option MpsFault) (all before : List P) (p : P) (e : MpsError) → first_fault fault before ≡ None → IsTurn all before p → IsOf (fault p) e → IsOf (first_fault fault all) e
error_of_turn fault all before p Memory n turn is = tt
error_of_turn fault all before p (Fault f) n turn is = fault_of_turn fault all before p f n turn is

pub columns_more : (boxed : Option ℕ) (ps : List (List ℕ × ColumnDraft)) (p : List ℕ × ColumnDraft) (columns more : List Column) (column : Column)
    → AreColumnsMade boxed ps columns → column_fault_kept boxed p ≡ None → column ≡ made_column boxed p → more ≡ columns ++ column ∷ [] → AreColumnsMade boxed (ps ++ p ∷ []) more
columns_more boxed ps p columns more column old n made is = record {
  none = none_push (column_fault_kept boxed) ps p old.none n;
  made = is ∙ ap (λ c. columns ++ c ∷ []) made ∙ ap (λ cs. cs ++ made_column boxed p ∷ []) old.made ∙ sym (map_push (made_column boxed) ps p);
}

rows_by : (b : Bool) (ps : List (List ℕ × RowDraft)) (p : List ℕ × RowDraft) → map made_row (ps ++ cond b (p ∷ []) []) ≡ cond b (map made_row ps ++ made_row p ∷ []) (map made_row ps)
rows_by true ps p = map_push made_row ps p
rows_by false ps p = ap (map made_row) (append-nil ps)

rows_push : (ps : List (List ℕ × RowDraft)) (p : List ℕ × RowDraft) → made_rows (ps ++ p ∷ []) ≡ cond (is_made p) (made_rows ps ++ made_row p ∷ []) (made_rows ps)
rows_push ps p = ap (map made_row) (filter-append is_made ps (p ∷ [])) ∙ rows_by (is_made p) (filter is_made ps) p

objective_push : (maximise : Bool) (old : target.Objective) (ps : List (List ℕ × RowDraft)) (p : List ℕ × RowDraft) → last_objective maximise old (ps ++ p ∷ []) ≡ objective_and maximise (last_objective maximise old ps) p
objective_push maximise old [] p = refl
objective_push maximise old (q ∷ ps) p = objective_push maximise (objective_and maximise old q) ps p

parts_same : (rs rs' : List NamedRow) (o o' : target.Objective) → rs ≡ rs' → o ≡ o' → (let a : RowsAndObjective = record { rows = rs; objective = o } in let b : RowsAndObjective = record { rows = rs'; objective = o' } in a ≡ b)
parts_same rs rs' o o' e f = cc

pub rows_more : (maximise : Bool) (ps : List (List ℕ × RowDraft)) (p : List ℕ × RowDraft) (parts new : RowsAndObjective)
    → AreRowsMade maximise ps parts → row_fault_kept p ≡ None → new ≡ and_row maximise parts p → AreRowsMade maximise (ps ++ p ∷ []) new
rows_more maximise ps p parts new old n is = record {
  none = none_push row_fault_kept ps p old.none n;
  made = is ∙ ap (λ parts. and_row maximise parts p) old.made ∙ sym (parts_same _ _ _ _ (rows_push ps p) (objective_push maximise (no_objective maximise) ps p));
}
