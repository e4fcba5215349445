-- Which racer wins a race.
use Rattle.std.specs.Prelude.{◌≡◌, ℕ, ◌<◌, ◌≤◌, ◌<ℤ◌, ◌⊎◌, List, Option, Some, None, All}
use Rattle.ug_rules.specs.declared.contender.Contender.{Contender}
use Rattle.ug_rules.specs.Firsts.{IsFirstBy}

-- the racer has at least w open nodes
abbrev pub HasEnough : ℕ → Contender → Type 0
HasEnough w racer = w ≤ racer.«open»

-- the racer has fewer than w open nodes
abbrev pub IsShort : ℕ → Contender → Type 0
IsShort w racer = racer.«open» < w

-- racer a has more open nodes than racer b, or as many and a lower rank
abbrev pub HasMore : Contender → Contender → Type 0
HasMore a b = (b.«open» < a.«open») ⊎ ((a.«open» ≡ b.«open») × (a.rank < b.rank))

-- racer a is ahead of racer b: it has a greater floor, then more open nodes, then a lower rank
abbrev pub LeadsOver : Contender → Contender → Type 0
LeadsOver a b = (b.floor <ℤ a.floor) ⊎ ((a.floor ≡ b.floor) × HasMore a b)

-- the racer is one of these, has enough open nodes, and none of these with enough is ahead of it
abbrev pub IsLeader : ℕ → List Contender → Contender → Type 0
IsLeader w racers racer = IsFirstBy (HasEnough w) LeadsOver racers racer

-- the rank is that of the first of the racers
pub record IsWinner (w : ℕ) (racers : List Contender) (rank : ℕ) : Type 0 where
  pub racer : Contender
  pub first : IsLeader w racers racer
  pub named : racer.rank ≡ rank

-- the first of the racers, if any has enough open nodes
abbrev pub IsLeaderIfAny : ℕ → List Contender → Option Contender → Type 0
IsLeaderIfAny w racers None = All (IsShort w) racers
IsLeaderIfAny w racers (Some racer) = IsLeader w racers racer
