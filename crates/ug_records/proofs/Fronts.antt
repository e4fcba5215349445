-- All that is to come of a record at first is its spelling.
use Rattle.std.proofs.Common.{◌≡◌, ℕ, List, [], ◌∷◌, ◌++◌, length, append_assoc, sym, ◌∙◌, ap}
use Rattle.std.specs.List.{flat_map}
use Rattle.ug_rows.specs.declared.row.Objective.{Objective}
use Rattle.ug_problem.specs.Instances.{Instance}
use Rattle.ug_fields.specs.Spelling.{count_field, number_field}
use Rattle.ug_fields.proofs.Parts.{four}
use Rattle.ug_records.specs.Spelling.{sense_field, term_fields, terms_fields, column_fields, row_fields, objective_fields, record_of}
use Rattle.ug_records.specs.Rests.{objective_head, from_front, from_column, from_rows, from_row, from_objective, from_last_term}

objective_front : (o : Objective)
    → objective_head o ++ flat_map term_fields o.terms ≡ objective_fields o
unfolding objective_head objective_fields terms_fields
objective_front o =
    let sense = sense_field o.maximise in
    let scale : List ℕ = o.scale ∷ [] in
    let constant = number_field o.constant in
    let count = count_field (length o.terms) in
    let terms = flat_map term_fields o.terms in
    append_assoc sense (scale ++ (constant ++ count)) terms
    ∙ ap (λ t. sense ++ t) (append_assoc scale (constant ++ count) terms
    ∙ ap (λ t. scale ++ t) (append_assoc constant count terms))
    ∙ sym (append_assoc (sense ++ scale) constant (count ++ terms)
    ∙ append_assoc sense scale (constant ++ (count ++ terms)))

pub front_is_all : (p : Instance) → from_front p ≡ record_of p
unfolding from_front from_column from_rows from_row from_objective from_last_term
front_is_all p =
    let wide = count_field (length p.columns) in
    let columns = flat_map column_fields p.columns in
    let high = count_field (length p.rows) in
    let rows = flat_map row_fields p.rows in
    ap (λ t. wide ++ (columns ++ (high ++ (rows ++ t)))) (objective_front p.objective)
    ∙ sym (four wide columns high rows (objective_fields p.objective))
