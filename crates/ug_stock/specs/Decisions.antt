-- The terms of a decision, and its result.
use Rattle.std.specs.Prelude.{◌≡◌, ℕ, ℤ, ◌<◌, ◌≤◌, ◌^◌, length, Option}
use Rattle.ug_rules.specs.State.{BookState, cutoff_of_best}
use Rattle.ug_rules.specs.Deciding.{IsDecided, Stands}
use Rattle.ug_stock.specs.declared.run.Run.{Run}
use Rattle.ug_stock.specs.declared.frontier.Frontier.{Frontier}
use Rattle.ug_stock.specs.Races.{StandsAlone}
use Rattle.ug_stock.specs.Frontiers.{with_frontier}

-- the book is of this run, and has an incumbent of this cutoff
pub record IsUnder (b : BookState) (its : Run) (its_cutoff : Option ℤ) : Type 0 where
  pub run : b.run ≡ its.number
  pub settings : b.settings ≡ its.settings
  pub cutoff : cutoff_of_best b ≡ its_cutoff

-- the marks are in order, a step of each rank can be counted, and a race stands alone
pub record CanDecide (run : Run) (frontier : Frontier) : Type 0 where
  pub marks : run.settings.low ≤ run.settings.high
  pub few : length frontier.ranks < 2 ^ 32
  pub alone : StandsAlone frontier.ranks frontier.raced

-- it was decided, or the first steps stand, whatever else the book has
abbrev pub HasDecided : Run → Option ℤ → Frontier → Frontier → Type 0
HasDecided run cutoff old new =
    (b : BookState) → IsUnder b run cutoff → IsDecided (with_frontier b old) (with_frontier b new)

abbrev pub HasStood : Run → Option ℤ → Frontier → Frontier → ℕ → Type 0
HasStood run cutoff old new stood =
    (b : BookState) → IsUnder b run cutoff → Stands stood (with_frontier b old) (with_frontier b new)
