use Rattle.std.proofs.Common.{◌≡◌, ◌<◌, ℕ, false}
use Rattle.ug_ranks.specs.States.{state_at}
use Rattle.ug_ranks.specs.Looks.{is_racing}
use Rattle.ug_stock.proofs.racer_left.has_racer.Given as goal

abbrev pub invariant-loop-state : goal.invariant-loop-state
invariant-loop-state l =
    (k : ℕ) → k < l.state-index → is_racing (state_at l.state-items k) ≡ false
