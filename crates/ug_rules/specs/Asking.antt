-- The members that can be asked for nodes, which of them is asked, and those that are collecting.
use Rattle.std.specs.Prelude.{◌≡◌, ℕ, ◌<◌, ◌≤◌, ◌<ℤ◌, ◌⊎◌, false, IsTrue, List, Option, Some, None}
use Rattle.std.specs.Prelude.{map, filter, All, Any}
use Rattle.std.specs.List.{AllPairs}
use Rattle.ug_rules.specs.Firsts.{IsFirstBy}
use Rattle.ug_rules.specs.declared.member.Member.{Member}

-- the member is not collecting, and last reported at least two open nodes
pub record CanBeAsked (member : Member) : Type 0 where
  pub idle : member.collecting ≡ false
  pub enough : 2 ≤ member.«open»

-- none of the members can be asked
abbrev pub NoneCanBeAsked : List Member → Type 0
NoneCanBeAsked members = All (λ member. CanBeAsked member → ⊥) members

-- member a is asked before member b: it has a smaller floor, or the same floor and a lower rank
abbrev pub IsAskedBefore : Member → Member → Type 0
IsAskedBefore a b = (a.floor <ℤ b.floor) ⊎ ((a.floor ≡ b.floor) × (a.rank < b.rank))

-- the member is one of these that can be asked, and none of these that can is asked before it
abbrev pub IsAskedFirst : List Member → Member → Type 0
IsAskedFirst members member = IsFirstBy CanBeAsked IsAskedBefore members member

-- the rank is that of the member that is asked first
pub record IsFirstRank (members : List Member) (rank : ℕ) : Type 0 where
  pub member : Member
  pub first : IsAskedFirst members member
  pub named : member.rank ≡ rank

-- the member that is asked first, if any can be asked
abbrev pub IsAskedFirstIfAny : List Member → Option Member → Type 0
IsAskedFirstIfAny members None = NoneCanBeAsked members
IsAskedFirstIfAny members (Some member) = IsAskedFirst members member

-- some member is collecting
abbrev pub IsAnyCollecting : List Member → Type 0
IsAnyCollecting members = Any (λ member. IsTrue member.collecting) members

-- no member is collecting
abbrev pub IsNoneCollecting : List Member → Type 0
IsNoneCollecting members = All (λ member. member.collecting ≡ false) members

-- the ranks that are collecting, in the order of the members
abbrev pub collecting_ranks : List Member → List ℕ
collecting_ranks members =
    map (λ member. member.rank) (filter (λ member. member.collecting) members)

-- the members come in rising order of their ranks
abbrev pub AreRising : List Member → Type 0
AreRising members = AllPairs (λ one later. one.rank < later.rank) members
