-- How many ranks are in which state.
use Rattle.std.specs.Prelude.{◌≡◌, List, length}
use Rattle.ug_ranks.specs.declared.state.State.{State}
use Rattle.ug_rules.specs.State.{nodes_of}
use Rattle.ug_rules.specs.Ranks.{ranks_that}
use Rattle.ug_ranks.specs.Looks.{is_absent, is_idle}
use Rattle.ug_stock.specs.declared.counting.Counts.{Counts}

-- the numbers of absent, idle and working ranks
pub record AreCounted (states : List State) (counts : Counts) : Type 0 where
  pub absent : counts.absent ≡ length (ranks_that is_absent states)
  pub idle : counts.idle ≡ length (ranks_that is_idle states)
  pub working : counts.working ≡ length (nodes_of states)
