use Rattle.std.proofs.Common.{◌≡◌, ◌<◌, ℕ, false}
use Rattle.ug_ranks.specs.States.{state_at}
use Rattle.ug_ranks.specs.Looks.{is_alive}
use Rattle.ug_coord.proofs.ending.is_any_alive.Given as goal

abbrev pub invariant-loop-rank : goal.invariant-loop-rank
invariant-loop-rank l = (r : ℕ) → r < l.rank → is_alive (state_at l.book.ranks r) ≡ false
