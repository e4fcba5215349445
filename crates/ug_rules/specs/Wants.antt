-- The nodes that the pool needs, and from whom.
use Rattle.std.specs.Prelude.{◌≡◌, ℕ, ◌+◌, ◌<◌, ◌≤◌, List}
use Rattle.std.specs.List.{AllPairs}
use Rattle.ug_rules.specs.declared.member.Member.{Member}
use Rattle.ug_rules.specs.declared.demand.Wanted.{Wanted}
use Rattle.ug_rules.specs.declared.demand.Wanted.TheVariants.{Ask, Enough, Nothing}
use Rattle.ug_rules.specs.Asking.{NoneCanBeAsked, IsFirstRank, IsAnyCollecting, IsNoneCollecting}
use Rattle.ug_rules.specs.Asking.{collecting_ranks}

-- the pool is below the low mark: of the first rank that can be asked, as many nodes as bring it
-- to the high mark
pub record IsAsk (len low high : ℕ) (members : List Member) (rank count : ℕ) : Type 0 where
  pub few : len < low
  pub first : IsFirstRank members rank
  pub up_to_high : len + count ≡ high

-- the pool is at the high mark, and some member is collecting
pub record IsFull (len high : ℕ) (members : List Member) : Type 0 where
  pub many : high ≤ len
  pub some : IsAnyCollecting members

-- these ranks must stop: all that are collecting
pub record IsEnough (len high : ℕ) (members : List Member) (ranks : List ℕ) : Type 0 where
  pub full : IsFull len high members
  pub all : ranks ≡ collecting_ranks members

-- below the low mark none can be asked, and at the high mark none is collecting
pub record IsNothing (len low high : ℕ) (members : List Member) : Type 0 where
  pub few : len < low → NoneCanBeAsked members
  pub many : high ≤ len → IsNoneCollecting members

-- the demand with this many nodes in the pool
abbrev pub IsWanted : ℕ → ℕ → ℕ → List Member → Wanted → Type 0
IsWanted len low high members (Ask rank count) = IsAsk len low high members rank count
IsWanted len low high members (Enough ranks) = IsEnough len high members ranks
IsWanted len low high members Nothing = IsNothing len low high members

-- the ranks that must stop rise
abbrev pub HasRisingRanks : Wanted → Type 0
HasRisingRanks (Ask rank count) = Unit {0}
HasRisingRanks (Enough ranks) = AllPairs (λ one later. one < later) ranks
HasRisingRanks Nothing = Unit {0}
