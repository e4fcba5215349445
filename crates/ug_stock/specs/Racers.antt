-- What becomes of a racer.
use Rattle.std.specs.Prelude.{if◌then◌else◌, ℕ, ◌==◌}
use Rattle.ug_ranks.specs.declared.state.State.{State}
use Rattle.ug_ranks.specs.declared.state.State.TheVariants.{Idle}
use Rattle.ug_ranks.specs.Looks.{is_racing}

-- the state of a racer that did not win
abbrev pub loser_freed : ℕ → ℕ → State → State
loser_freed winner r state =
    (if r == winner then state else (if is_racing state then Idle else state))
