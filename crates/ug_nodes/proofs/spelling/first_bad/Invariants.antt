use Rattle.std.proofs.Common.{ℕ, ◌<◌}
use Rattle.ug_nodes.specs.Changes.{IsChangeOf, change_at}
use Rattle.ug_nodes.proofs.spelling.first_bad.Given as goal

abbrev pub invariant-loop-change : goal.invariant-loop-change
invariant-loop-change l = (k : ℕ) → k < l.change-index → IsChangeOf l.root (change_at l.changes k)
