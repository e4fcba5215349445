-- All that is to come of an image at first is its spelling.
use Rattle.std.proofs.Common.{◌≡◌, ℕ, ℤ, List, ◌∷◌, ◌++◌, length, Option, None, Some, append_assoc, refl, sym, ◌∙◌, ap}
use Rattle.std.specs.List.{flat_map}
use Rattle.ug_problem.specs.Instances.{Instance}
use Rattle.ug_fields.specs.Spelling.{count_field, bound_field, long_field, number_field}
use Rattle.ug_records.specs.Spelling.{record_of}
use Rattle.ug_records.specs.declared.stage.RecordStage.TheVariants.{Front as RecordFront}
use Rattle.ug_records.proofs.Fronts.{front_is_all as record_is_all}
use Rattle.ug_image.specs.declared.image.Image.{Image}
use Rattle.ug_image.specs.Spelling.{problem_fields, point_fields, best_fields, node_fields, nodes_fields, heard_field, gap_field, spelled}
use Rattle.ug_image.specs.Rests.{front_line, heard_line, best_head, values_of, from_front, from_problem, from_best, from_value, from_heard, from_node}
use Rattle.ug_image.proofs.Entire.{in_order}

best_front : (b : Option (List ℤ)) (r : List ℕ)
    → best_head b ++ (flat_map bound_field (values_of b) ++ r) ≡ best_fields b ++ r
unfolding best_head point_fields
best_front None r = refl
best_front (Some x) r =
    ap (λ t. 1 ∷ t) (sym (append_assoc (count_field (length x)) (flat_map bound_field x) r))

problem_front : (p : Instance) (r : List ℕ)
    → count_field (length (record_of p)) ++ (record_of p ++ r) ≡ problem_fields p ++ r
unfolding problem_fields
problem_front p r = sym (append_assoc (count_field (length (record_of p))) (record_of p) r)

heard_front : (i : Image) → from_heard i
    ≡ heard_field 3 i.heard ++ (gap_field 3 i.gap
    ++ (long_field (length i.nodes) ++ nodes_fields 3 i.nodes))
unfolding from_heard from_node heard_line heard_field gap_field nodes_fields
heard_front i =
    let d = long_field i.heard in
    let g = number_field i.gap in
    let n = long_field (length i.nodes) in
    let nodes = flat_map node_fields i.nodes in
    append_assoc d (g ++ n) nodes ∙ ap (λ t. d ++ t) (append_assoc g n nodes)

best_behind : (i : Image) → from_best i ≡ best_fields i.best ++ from_heard i
unfolding from_best from_value
best_behind i = best_front i.best (from_heard i)

problem_behind : (i : Image) → from_problem i RecordFront ≡ record_of i.problem ++ from_best i
unfolding from_problem
problem_behind i = ap (λ r. r ++ from_best i) (record_is_all i.problem)

pub front_is_all : (i : Image) → from_front i ≡ spelled i
unfolding from_front front_line
front_is_all i =
    let run = long_field i.run in
    let sequence = long_field i.sequence in
    let long = count_field (length (record_of i.problem)) in
    ap (λ t. 3 ∷ t)
    (append_assoc run (sequence ++ long) (from_problem i RecordFront)
    ∙ ap (λ t. run ++ t) (append_assoc sequence long (from_problem i RecordFront)
    ∙ ap (λ t. sequence ++ t) (ap (λ t. long ++ t) (problem_behind i)
    ∙ problem_front i.problem (from_best i)
    ∙ ap (λ t. problem_fields i.problem ++ t) (best_behind i
    ∙ ap (λ t. best_fields i.best ++ t) (heard_front i)))))
    ∙ sym (in_order 3 i)
