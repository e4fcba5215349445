use Rattle.std.proofs.Common.{◌≡◌, length, take}
use Rattle.std.specs.List.{flat_map}
use Rattle.ug_records.specs.Spelling.{column_fields}
use Rattle.ug_records.specs.Lengths.{capped}
use Rattle.ug_records.proofs.counting.columns_length.Given as goal

abbrev pub invariant-loop-column : goal.invariant-loop-column
invariant-loop-column l = l.total ≡ capped (length (flat_map column_fields (take l.column-index l.columns)))
