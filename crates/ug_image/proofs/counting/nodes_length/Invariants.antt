use Rattle.std.proofs.Common.{◌≡◌, length, take}
use Rattle.std.specs.List.{flat_map}
use Rattle.ug_image.specs.Spelling.{node_fields}
use Rattle.ug_records.specs.Lengths.{capped}
use Rattle.ug_image.proofs.counting.nodes_length.Given as goal

abbrev pub invariant-loop-node : goal.invariant-loop-node
invariant-loop-node l = l.total ≡ capped (length (flat_map node_fields (take l.node-index l.nodes)))
