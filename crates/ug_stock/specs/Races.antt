-- When a race is won, and what surrounds it.
use Rattle.std.specs.Prelude.{◌≡◌, ◌≢◌, ℕ, ◌+◌, ◌<◌, ◌≤◌, List, [], length, All, IsSome, Option, None}
use Rattle.ug_pool.specs.declared.entry.Entry.{Entry}
use Rattle.ug_rules.specs.declared.contender.Contender.{Contender}
use Rattle.ug_rules.specs.Winning.{IsWinner}
use Rattle.ug_ranks.specs.declared.state.State.{State}
use Rattle.ug_ranks.specs.States.{IsRacing, state_at}
use Rattle.ug_rules.specs.State.{nodes_of}
use Rattle.ug_rules.specs.Ranks.{ranks_that}
use Rattle.ug_ranks.specs.Looks.{is_racing}
use Rattle.ug_rules.specs.Deciding.{HasReported}

-- each of the racers has reported, and this rank wins
pub record IsWonAmong (enough : ℕ) (racers : List Contender) (rank : ℕ) : Type 0 where
  pub reported : All HasReported racers
  pub winner : IsWinner enough racers rank

-- the rank takes part in the race
pub record IsRacer (rank : ℕ) (states : List State) : Type 0 where
  pub there : rank < length states
  pub racing : IsRacing (state_at states rank)

-- no node is raced any more, and at most one more rank works
pub record IsRaceOver (old new : List State) (raced : Option Entry) : Type 0 where
  pub none : raced ≡ None
  pub work : length (nodes_of new) ≤ length (nodes_of old) + 1

-- a race excludes other work: if some rank races, a node is raced and no rank works
pub record StandsAlone (states : List State) (entry : Option Entry) : Type 0 where
  pub raced : ranks_that is_racing states ≢ [] → IsSome entry
  pub none_works : ranks_that is_racing states ≢ [] → nodes_of states ≡ []
