use Rattle.std.proofs.Common.{◌≤◌, int_lt, length, rules}
use Rattle.std.proofs.lemmas.List.Sorted.{IsPartitionPoint-from_clause}
use Rattle.ug_pool.specs.declared.entry.Entry.{Entry}
use Rattle.ug_pool.proofs.Places.{floor_parts, below_from_parts}
use Rattle.ug_pool.proofs.pool.first_from.Goals as goal

pub returns-clause-kept : goal.returns-clause-kept
returns-clause-kept c =
    let value = c.args.value in
    let xs = c.args.entries.now.items in
    let point = c.partition_point in
    let within : point.result ≤ length xs = search rules in
    below_from_parts value xs point.result within
    (IsPartitionPoint-from_clause (λ (x : Entry). int_lt x.floor value) xs point.result point.ensures.partitioned
    (floor_parts value xs c.requires) (λ a r f' k. search rules))
