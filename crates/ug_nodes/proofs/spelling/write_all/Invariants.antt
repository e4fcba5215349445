use Rattle.std.proofs.Common.{◌≡◌, take}
use Rattle.ug_nodes.specs.Changes.{area_by}
use Rattle.ug_nodes.proofs.spelling.write_all.Given as goal

abbrev pub invariant-loop-change : goal.invariant-loop-change
invariant-loop-change l = l.sides.items ≡ area_by l.initial.sides.items (take l.change-index l.changes)
