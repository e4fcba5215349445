use Rattle.std.proofs.Common.{ℕ, ◌<◌}
use Rattle.ug_nodes.specs.Changes.{change_at}
use Rattle.ug_nodes.proofs.change.are_rising.Given as goal

abbrev pub invariant-loop-k : goal.invariant-loop-k
invariant-loop-k l = (i m : ℕ) → i < m → m < l.k → (change_at l.changes i).column < (change_at l.changes m).column
