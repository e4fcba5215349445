use Rattle.std.proofs.Common.{◌≤◌, not, length, rules}
use Rattle.std.proofs.lemmas.List.Sorted.{IsPartitionPoint-from_clause}
use Rattle.ug_pool.specs.declared.entry.Entry.{Entry}
use Rattle.ug_pool.specs.Pools.{is_before}
use Rattle.ug_pool.proofs.Places.{not_before_parts, place_from_parts}
use Rattle.ug_pool.proofs.pool.place_of.Goals as goal

pub returns : goal.returns
returns c =
    let entry = c.args.entry.now in
    let xs = c.args.entries.now.items in
    let point = c.partition_point in
    let within : point.result ≤ length xs = search rules in
    place_from_parts entry xs point.result within
    (IsPartitionPoint-from_clause (λ (x : Entry). not (is_before entry x)) xs point.result point.ensures.partitioned
    (not_before_parts entry xs c.requires) (λ a r f' k. search rules))
