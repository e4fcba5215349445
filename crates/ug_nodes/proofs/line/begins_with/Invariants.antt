use Rattle.std.proofs.Common.{◌≡◌, ℕ, ◌<◌}
use Rattle.ug_nodes.specs.Lines.{line_name_at}
use Rattle.ug_nodes.proofs.line.begins_with.Given as goal

abbrev pub invariant-loop-k : goal.invariant-loop-k
invariant-loop-k l = (i : ℕ) → i < l.k → line_name_at l.line i ≡ line_name_at l.front i
