-- The problem made at the end is the one that the lines state.
use Rattle.std.proofs.Common.{◌≡◌, ℕ, cond, Bool, true, false, List, [], ◌∷◌, ◌++◌, get_or, map, filter, All, Option, Some, None, sym, refl, ap, subst, ◌∙◌, ⊎_elim}
use Rattle.std.specs.List.{zip}
use Rattle.std.specs.Option.{option_map}
use Rattle.std.proofs.lemmas.Bool.{cases_Bool, false≢true}
use Rattle.std.proofs.lemmas.List.Elements.{All-map}
use Rattle.ug_lines.specs.declared.kinds.RowKind.{RowKind}
use Rattle.ug_lines.specs.declared.kinds.RowKind.TheVariants as types
use Rattle.ug_rows.specs.declared.row.Objective as target
use Rattle.ug_drafts.specs.declared.column.ColumnDraft.{ColumnDraft}
use Rattle.ug_drafts.specs.declared.row.RowDraft.{RowDraft}
use Rattle.ug_drafts.specs.declared.fault.Kind.{Kind}
use Rattle.ug_drafts.specs.declared.fault.MpsFault.{MpsFault}
use Rattle.ug_drafts.specs.Roles.{is_objective, is_sided}
use Rattle.ug_drafts.specs.FirstFaults.{or_else, first_fault}
use Rattle.ug_drafts.specs.RowNumbers.{objective_of, no_objective}
use Rattle.ug_drafts.specs.Made.{column_fault_kept, made_column, HasDecimals, row_fault_kept, made_rows, last_objective}
use Rattle.ug_mps.specs.Entries.{Entry, row}
use Rattle.ug_mps.specs.Good.{Good}
use Rattle.ug_mps.specs.History.{RowNamed, ColumnBegun, rows_of, columns_of, have_objective, role_with, role_after, is_maximised}
use Rattle.ug_mps.specs.Reads.{column_fault, row_fault}
use Rattle.ug_mps.specs.Stated.{numbers_of, stated_row, stated_rows, stated_column, objective_in}
use Rattle.ug_mps.specs.Rows.{KeptRows, lists_of, row_so_far, AreRows}
use Rattle.ug_mps.specs.Columns.{KeptColumns, column_so_far, AreColumns}
use Rattle.ug_mps.proofs.Bytes.{or_false, false_from, any_append}
use Rattle.ug_mps.proofs.GoodLemmas.{decimals_of}

-- ---- columns

-- a column as it is kept, with its name
abbrev column_pairs : List Entry → List ColumnBegun → List (List ℕ × ColumnDraft)
column_pairs h cs = zip (map (λ (c : ColumnBegun). c.name) cs) (map (column_so_far h) cs)

kind_fault : (a b : Bool) (k l : Kind) (fault : Kind → MpsFault) → option_map fault (cond a (Some k) (cond b (Some l) None)) ≡ cond a (Some (fault k)) (cond b (Some (fault l)) None)
kind_fault true b k l fault = refl
kind_fault false true k l fault = refl
kind_fault false false k l fault = refl

zip_columns_fault : (boxed : Option ℕ) (h : List Entry) (cs : List ColumnBegun) → first_fault (column_fault_kept boxed) (column_pairs h cs) ≡ first_fault (column_fault boxed h) cs
zip_columns_fault boxed h [] = refl
zip_columns_fault boxed h (c ∷ cs) = rw (kind_fault _ _ _ _ _, zip_columns_fault boxed h cs) refl

zip_columns : (boxed : Option ℕ) (h : List Entry) (cs : List ColumnBegun) → map (made_column boxed) (column_pairs h cs) ≡ map (stated_column boxed h) cs
zip_columns boxed h [] = refl
zip_columns boxed h (c ∷ cs) = ap (λ cs. stated_column boxed h c ∷ cs) (zip_columns boxed h cs)

pub columns_fault : (boxed : Option ℕ) (h : List Entry) (c : KeptColumns) → AreColumns h c → first_fault (column_fault_kept boxed) (zip c.names c.drafts) ≡ first_fault (column_fault boxed h) (columns_of h)
columns_fault boxed h c are = rw (are.names, are.drafts) (zip_columns_fault boxed h (columns_of h))

pub columns_stated : (boxed : Option ℕ) (h : List Entry) (c : KeptColumns) → AreColumns h c → map (made_column boxed) (zip c.names c.drafts) ≡ map (stated_column boxed h) (columns_of h)
columns_stated boxed h c are = rw (are.names, are.drafts) (zip_columns boxed h (columns_of h))

-- ---- rows

-- a row as it is kept, with its name
abbrev row_pairs : List Entry → List RowNamed → List (List ℕ × RowDraft)
row_pairs h rows = zip (map (λ (r : RowNamed). r.name) rows) (map (row_so_far (lists_of h)) rows)

zip_rows_fault : (h : List Entry) (rows : List RowNamed) → first_fault row_fault_kept (row_pairs h rows) ≡ first_fault (row_fault h) rows
zip_rows_fault h [] = refl
zip_rows_fault h (r ∷ rows) = ap (or_else (row_fault h r)) (zip_rows_fault h rows)

zip_rows : (h : List Entry) (rows : List RowNamed) → made_rows (row_pairs h rows) ≡ map (stated_row h) (filter (λ (r : RowNamed). is_sided r.role) rows)
zip_rows h [] = refl
zip_rows h (r ∷ rows) = ⊎_elim
    (λ t. rw t (ap (λ rs. stated_row h r ∷ rs) (zip_rows h rows)))
    (λ f. rw f (zip_rows h rows))
    (cases_Bool (is_sided r.role))

pub rows_fault : (h : List Entry) (rows : KeptRows) → AreRows (lists_of h) rows → first_fault row_fault_kept (zip rows.names rows.drafts) ≡ first_fault (row_fault h) (rows_of h)
rows_fault h rows are = rw (are.names, are.drafts) (zip_rows_fault h (rows_of h))

pub rows_stated : (h : List Entry) (rows : KeptRows) → AreRows (lists_of h) rows → made_rows (zip rows.names rows.drafts) ≡ stated_rows h
rows_stated h rows are = rw (are.names, are.drafts) (zip_rows h (rows_of h))

-- the numbers kept are decimals
pub drafts_decimal : (h : List Entry) (rows : KeptRows) → Good h → AreRows (lists_of h) rows → All HasDecimals rows.drafts
drafts_decimal h rows g are =
    subst (λ (ds : List RowDraft). All HasDecimals ds) (sym are.drafts)
    (All-map HasDecimals (row_so_far (lists_of h)) (rows_of h) (λ k d a. decimals_of h g (get_or (rows_of h) k d)))

-- ---- the objective

-- no row behind the objective is one
abbrev HaveOneObjective : List RowNamed → Type 0
HaveOneObjective [] = Unit {0}
HaveOneObjective (r ∷ rows) = (is_objective r.role ≡ true → have_objective rows ≡ false) × HaveOneObjective rows

one_push : (rows : List RowNamed) (r : RowNamed) → HaveOneObjective rows → (is_objective r.role ≡ true → have_objective rows ≡ false) → HaveOneObjective (rows ++ r ∷ [])
one_push [] r one f = (λ t. refl, tt)
one_push (q ∷ rows) r one f = (
  λ t.
      let other : is_objective r.role ≡ false = false_from (is_objective r.role) (λ s. false≢true (sym (or_false (is_objective q.role) (have_objective rows) (f s)).0 ∙ t)) in
      any_append (λ (r : RowNamed). is_objective r.role) rows (r ∷ []) ∙ rw (one.0 t, other) refl,
  one_push rows r one.1 (λ s. (or_false (is_objective q.role) (have_objective rows) (f s)).1),
)

first_objective : (has : Bool) (kind : RowKind) → is_objective (role_with has kind) ≡ true → has ≡ false
first_objective true types.Objective e = absurd (false≢true e)
first_objective false types.Objective e = refl
first_objective has types.AtMost e = absurd (false≢true e)
first_objective has types.AtLeast e = absurd (false≢true e)
first_objective has types.Equal e = absurd (false≢true e)

one_objective : (h : List Entry) → HaveOneObjective (rows_of h)
one_objective [] = tt
one_objective (row line kind name ∷ h) =
    one_push (rows_of h) (record { line = line; role = role_after (rows_of h) kind; name = name }) (one_objective h) (first_objective (have_objective (rows_of h)) kind)
one_objective (_ ∷ h) = one_objective h

-- without one among them the objective stays
objective_kept : (m : Bool) (old : target.Objective) (h : List Entry) (rows : List RowNamed) → have_objective rows ≡ false → last_objective m old (row_pairs h rows) ≡ old
objective_kept m old h [] e = refl
objective_kept m old h (r ∷ rows) e =
    let parts = or_false (is_objective r.role) (have_objective rows) e in
    rw parts.0 (objective_kept m old h rows parts.1)

zip_objective : (h : List Entry) (rows : List RowNamed) → HaveOneObjective rows → last_objective (is_maximised h) (no_objective (is_maximised h)) (row_pairs h rows) ≡ objective_in h rows
zip_objective h [] one = refl
zip_objective h (r ∷ rows) one = ⊎_elim
    (λ t. rw t (objective_kept (is_maximised h) (objective_of (is_maximised h) (numbers_of h r)) h rows (one.0 t)))
    (λ f. rw f (zip_objective h rows one.1))
    (cases_Bool (is_objective r.role))

pub objective_stated : (m : Bool) (h : List Entry) (rows : KeptRows) → m ≡ is_maximised h → AreRows (lists_of h) rows → last_objective m (no_objective m) (zip rows.names rows.drafts) ≡ objective_in h (rows_of h)
objective_stated m h rows e are = rw (e, are.names, are.drafts) (zip_objective h (rows_of h) (one_objective h))
