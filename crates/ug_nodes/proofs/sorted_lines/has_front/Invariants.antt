use Rattle.std.proofs.Common.{ℕ, ◌<◌, take, Contains}
use Rattle.ug_nodes.specs.SortedLines.{fronts}
use Rattle.ug_nodes.proofs.sorted_lines.has_front.Given as goal

abbrev pub invariant-loop-k : goal.invariant-loop-k
invariant-loop-k l = (i : ℕ) → i < l.k → Contains (fronts l.lines) (take i l.line) → ⊥
