use Rattle.std.proofs.Common.{◌≤◌, ltb, length, rules}
use Rattle.std.proofs.lemmas.List.Sorted.{IsPartitionPoint-from_clause}
use Rattle.ug_rows.specs.declared.row.Term.{Term}
use Rattle.ug_nodes.proofs.Floors.{columns_parted, column_place}
use Rattle.ug_nodes.proofs.floor.first_from.Goals as goal

pub returns : goal.returns
returns c =
    let column = c.args.column in
    let terms = c.args.terms.now in
    let point = c.partition_point in
    let within : point.result ≤ length terms = search rules in
    column_place terms column point.result within
    (IsPartitionPoint-from_clause (λ (t : Term). ltb t.column column) terms point.result point.ensures.partitioned
    (columns_parted terms column c.requires) (λ a r f' k. search rules))
