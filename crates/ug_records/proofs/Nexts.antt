-- Each line of a record is the front of what is to come.
use Rattle.std.proofs.Common.{◌≡◌, ℕ, ◌+◌, ◌<◌, ◌≤◌, List, [], ◌∷◌, ◌++◌, length, drop, get_or, append_assoc, refl, sym, ◌∙◌, ap, arith}
use Rattle.std.specs.List.{flat_map}
use Rattle.std.proofs.lemmas.List.{drop_all, get_or_past, length-append}
use Rattle.ug_rows.specs.declared.row.Term.{Term}
use Rattle.ug_problem.specs.declared.column.Column.{Column}
use Rattle.ug_problem.specs.declared.column.NamedRow.{NamedRow}
use Rattle.ug_problem.specs.Instances.{Instance, no_row}
use Rattle.ug_fields.specs.Lines.{IsNextLine}
use Rattle.ug_fields.specs.Spelling.{count_field, number_field, name_field, optional_field}
use Rattle.ug_fields.proofs.Nexts.{put_next, same_next, none_next, bare_next, item, past, over, here, own, lent, past_next, item_next, place_next}
use Rattle.ug_records.specs.Spelling.{sense_field, term_fields, terms_fields, column_fields, row_fields}
use Rattle.ug_records.specs.Rests.{row_head, objective_head, from_front, from_column, from_rows, from_row, from_term, from_objective, from_last_term}

-- ---- the objective

pub last_term_past : (p : Instance) (k : ℕ) (terms : List Term) (line : List ℕ)
    → terms ≡ p.objective.terms → length terms ≤ k → line ≡ []
    → IsNextLine (from_last_term p k) line (from_last_term p k)
unfolding from_last_term
last_term_past p k terms line same end empty =
    let none : from_last_term p k ≡ [] = ap (flat_map term_fields)
    (drop_all k p.objective.terms (over terms p.objective.terms same k end)) in
    none_next (from_last_term p k) line (from_last_term p k) empty none none

pub last_term_next : (p : Instance) (k : ℕ) (terms : List Term) (d : Term) (line : List ℕ)
    → terms ≡ p.objective.terms → k < length terms → line ≡ term_fields (get_or terms k d)
    → IsNextLine (from_last_term p k) line (from_last_term p (k + 1))
unfolding from_last_term count_field
last_term_next p k terms d line same there spelled =
    bare_next (from_last_term p k) line (from_last_term p (k + 1))
    (place_next term_fields terms p.objective.terms same k [] line d there spelled (omega arith))

pub objective_next : (p : Instance) (line : List ℕ) → line ≡ objective_head p.objective
    → IsNextLine (from_objective p) line (from_last_term p 0)
unfolding from_objective objective_head
objective_next p line same =
    put_next (from_objective p) (objective_head p.objective) line (from_last_term p 0) same refl
    (omega (
      arith,
      length-append (sense_field p.objective.maximise) ((p.objective.scale ∷ [])
          ++ (number_field p.objective.constant ++ count_field (length p.objective.terms))),
    ))

-- ---- rows

pub row_past : (p : Instance) (j : ℕ) (rows : List NamedRow) (line after : List ℕ)
    → rows ≡ p.rows → length rows ≤ j → IsNextLine (from_objective p) line after
    → IsNextLine (from_row p j) line after
unfolding from_row
row_past p j rows line after same end next =
    past_next row_fields rows p.rows same j (from_objective p) line after end next

row_front : (r : NamedRow) (behind : List ℕ)
    → row_fields r ++ behind ≡ row_head r ++ (flat_map term_fields r.row.terms ++ behind)
unfolding row_head terms_fields
row_front r behind =
    let name = name_field r.name in
    let low = optional_field r.row.low in
    let high = optional_field r.row.high in
    let count = count_field (length r.row.terms) in
    let terms = flat_map term_fields r.row.terms in
    append_assoc (name ++ low ++ high) (count ++ terms) behind
    ∙ append_assoc (name ++ low) high ((count ++ terms) ++ behind)
    ∙ append_assoc name low (high ++ ((count ++ terms) ++ behind))
    ∙ ap (λ t. name ++ (low ++ (high ++ t))) (append_assoc count terms behind)
    ∙ sym (append_assoc name (low ++ (high ++ count)) (terms ++ behind)
    ∙ ap (λ t. name ++ t) (append_assoc low (high ++ count) (terms ++ behind)
    ∙ ap (λ t. low ++ t) (append_assoc high count (terms ++ behind))))

row_some : (r : NamedRow) → 0 < length (row_head r)
unfolding row_head
row_some r = omega arith

pub row_next : (p : Instance) (j : ℕ) (rows : List NamedRow) (r : NamedRow) (line : List ℕ)
    → rows ≡ p.rows → j < length rows → r ≡ get_or rows j r → line ≡ row_head r
    → IsNextLine (from_row p j) line (from_term p j 0)
unfolding from_row from_term
row_next p j rows r line same there is spelled =
    put_next (from_row p j) (row_head r) line (from_term p j 0) spelled
    (item row_fields p.rows j r (from_objective p) (here rows p.rows same j there)
    (own rows p.rows same j r is)
    ∙ row_front r (flat_map row_fields (drop (j + 1) p.rows) ++ from_objective p)
    ∙ ap (λ (m : NamedRow). row_head r ++ (flat_map term_fields m.row.terms
    ++ (flat_map row_fields (drop (j + 1) p.rows) ++ from_objective p)))
    (lent rows p.rows same j r no_row there is))
    (row_some r)

-- behind all rows there are no terms
pub term_past_rows : (p : Instance) (j k : ℕ) (rows : List NamedRow) (line after : List ℕ)
    → rows ≡ p.rows → length rows ≤ j → IsNextLine (from_objective p) line after
    → IsNextLine (from_term p j k) line after
unfolding from_term
term_past_rows p j k rows line after same end next =
    same_next (from_term p j k) (from_row p (j + 1)) line after
    (ap (λ (m : NamedRow). flat_map term_fields (drop k m.row.terms) ++ from_row p (j + 1))
    (get_or_past p.rows j no_row (over rows p.rows same j end))
    ∙ past term_fields [] k (from_row p (j + 1)) (omega arith))
    (row_past p (j + 1) rows line after same (omega (arith, end)) next)

terms_are : (p : Instance) (j : ℕ) (rows : List NamedRow) (r : NamedRow) (terms : List Term)
    → rows ≡ p.rows → j < length rows → r ≡ get_or rows j r → terms ≡ r.row.terms
    → terms ≡ (get_or p.rows j no_row).row.terms
terms_are p j rows r terms same there is list =
    list ∙ ap (λ (m : NamedRow). m.row.terms) (lent rows p.rows same j r no_row there is)

pub term_past : (p : Instance) (j k : ℕ) (rows : List NamedRow) (r : NamedRow) (terms : List Term)
    (line after : List ℕ)
    → rows ≡ p.rows → j < length rows → r ≡ get_or rows j r → terms ≡ r.row.terms
    → length terms ≤ k → IsNextLine (from_row p (j + 1)) line after
    → IsNextLine (from_term p j k) line after
unfolding from_term
term_past p j k rows r terms line after same there is list end next =
    past_next term_fields terms (get_or p.rows j no_row).row.terms
    (terms_are p j rows r terms same there is list) k (from_row p (j + 1)) line after end next

pub term_next : (p : Instance) (j k : ℕ) (rows : List NamedRow) (r : NamedRow) (terms : List Term)
    (d : Term) (line : List ℕ)
    → rows ≡ p.rows → j < length rows → r ≡ get_or rows j r → terms ≡ r.row.terms
    → k < length terms → line ≡ term_fields (get_or terms k d)
    → IsNextLine (from_term p j k) line (from_term p j (k + 1))
unfolding from_term count_field
term_next p j k rows r terms d line same there is list inside spelled =
    place_next term_fields terms (get_or p.rows j no_row).row.terms
    (terms_are p j rows r terms same there is list) k (from_row p (j + 1)) line d inside spelled
    (omega arith)

pub rows_next : (p : Instance) (line : List ℕ) → line ≡ count_field (length p.rows)
    → IsNextLine (from_rows p) line (from_row p 0)
unfolding from_rows count_field
rows_next p line same =
    put_next (from_rows p) (count_field (length p.rows)) line (from_row p 0) same refl
    (omega arith)

-- ---- columns

pub column_past : (p : Instance) (k : ℕ) (columns : List Column) (line after : List ℕ)
    → columns ≡ p.columns → length columns ≤ k → IsNextLine (from_rows p) line after
    → IsNextLine (from_column p k) line after
unfolding from_column
column_past p k columns line after same end next =
    past_next column_fields columns p.columns same k (from_rows p) line after end next

pub column_next : (p : Instance) (k : ℕ) (columns : List Column) (c : Column) (line : List ℕ)
    → columns ≡ p.columns → k < length columns → c ≡ get_or columns k c → line ≡ column_fields c
    → IsNextLine (from_column p k) line (from_column p (k + 1))
unfolding from_column
column_next p k columns c line same there is spelled =
    item_next column_fields columns p.columns same k (from_rows p) line c there is spelled
    (omega arith)

pub front_next : (p : Instance) (line : List ℕ) → line ≡ count_field (length p.columns)
    → IsNextLine (from_front p) line (from_column p 0)
unfolding from_front count_field
front_next p line same =
    put_next (from_front p) (count_field (length p.columns)) line (from_column p 0) same refl
    (omega arith)
