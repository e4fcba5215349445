use Rattle.std.proofs.Common.{◌≡◌, map, take}
use Rattle.ug_nodes.specs.SortedLines.{fronts, line_of}
use Rattle.ug_nodes.proofs.sorted_lines.lines_of.Given as goal

abbrev pub invariant-loop-node : goal.invariant-loop-node
invariant-loop-node l = fronts l.lines.items ≡ map line_of (take l.node-index l.nodes)
