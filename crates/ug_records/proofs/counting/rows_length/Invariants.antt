use Rattle.std.proofs.Common.{◌≡◌, length, take}
use Rattle.std.specs.List.{flat_map}
use Rattle.ug_records.specs.Spelling.{row_fields}
use Rattle.ug_records.specs.Lengths.{capped}
use Rattle.ug_records.proofs.counting.rows_length.Given as goal

abbrev pub invariant-loop-named : goal.invariant-loop-named
invariant-loop-named l = l.total ≡ capped (length (flat_map row_fields (take l.named-index l.rows)))
