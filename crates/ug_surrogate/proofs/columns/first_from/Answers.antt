use Rattle.std.proofs.Common.{◌≤◌, ltb, length, rules}
use Rattle.std.proofs.lemmas.List.Sorted.{IsPartitionPoint-from_clause}
use Rattle.ug_surrogate.specs.declared.multipliers.Multiplier.{Multiplier}
use Rattle.ug_surrogate.proofs.Places.{rows_parted, row_place}
use Rattle.ug_surrogate.proofs.columns.first_from.Goals as goal

pub returns : goal.returns
returns c =
    let row = c.args.row in
    let list = c.args.list.now in
    let point = c.partition_point in
    let within : point.result ≤ length list = search rules in
    row_place list row point.result within
    (IsPartitionPoint-from_clause (λ (u : Multiplier). ltb u.row row) list point.result point.ensures.partitioned
    (rows_parted list row c.requires) (λ a r f' k. search rules))
