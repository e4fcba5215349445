-- Assigning nodes of the pool to idle ranks.
use Rattle.std.specs.Prelude.{◌≡◌, ℕ, ◌+◌, ◌-◌, ◌^◌, ◌<◌, ◌≤◌, List, ◌∷◌, length, slice_set}
use Rattle.ug_pool.specs.declared.entry.Entry.{Entry}
use Rattle.ug_pool.specs.Pools.{Pooled}
use Rattle.ug_ranks.specs.declared.state.Work.{Work}
use Rattle.ug_ranks.specs.declared.state.State.{State}
use Rattle.ug_ranks.specs.declared.state.State.TheVariants.{Active, Idle}
use Rattle.ug_ranks.specs.States.{state_at}
use Rattle.ug_rules.specs.State.{BookState, nodes_of}
use Rattle.ug_rules.specs.Deciding.{assigned_times, assignments, given_to}
use Rattle.ug_stock.specs.declared.terms.Terms.{Terms}
use Rattle.ug_stock.specs.declared.frontier.Frontier.{Frontier}
use Rattle.ug_stock.specs.Frontiers.{AreTermsOf, with_frontier}

-- the first entry left the pool, and its place is spare
pub record IsTakenOut (old new : Pooled) (entry : Entry) : Type 0 where
  pub first : old.entries ≡ entry ∷ new.entries
  pub spare : new.spare ≡ old.spare + 1

-- the first entry of the pool was given to the rank
pub record IsGivenFirst (terms : Terms) (r : ℕ) (old new : Frontier) : Type 0 where
  pub entry : Entry
  pub first : old.pool.entries ≡ entry ∷ new.pool.entries
  pub work : Work
  pub written : new.ranks ≡ slice_set old.ranks r (Active work)
  pub last : new.last ≡ old.last + 1
  pub raced : new.raced ≡ old.raced
  pub given_ : (b : BookState) → AreTermsOf b terms
      → with_frontier b new ≡ given_to r entry new.pool.entries (with_frontier b old)

-- the entry's place in the pool is spare, and one rank more works, whose order took a place
pub record IsPlaced (old new : Frontier) : Type 0 where
  pub pool : new.pool.spare ≡ old.pool.spare + 1
  pub working : length (nodes_of new.ranks) ≡ length (nodes_of old.ranks) + 1
  pub orders : new.orders.spare + 1 ≡ old.orders.spare

-- so it was, and each rank that works has a place for its Stop
pub record IsAssigned (terms : Terms) (r : ℕ) (old new : Frontier) : Type 0 where
  pub given_ : IsGivenFirst terms r old new
  pub pool : new.pool.spare ≡ old.pool.spare + 1
  pub working : length (nodes_of new.ranks) ≡ length (nodes_of old.ranks) + 1
  pub orders : length (nodes_of new.ranks) ≤ new.orders.spare

-- the rank is idle, and there is a node for it and a ticket
pub record CanBeAssigned (r : ℕ) (states : List State) (entries : List Entry) (last : ℕ)
    : Type 0 where
  pub idle : state_at states r ≡ Idle
  pub some : 0 < length entries
  pub number : last < 2 ^ 64 - 1

-- `steps` nodes were assigned, and no more can be
pub record IsAllAssigned (steps : ℕ) (old new : BookState) : Type 0 where
  pub count : steps ≡ assignments old
  pub given_ : new ≡ assigned_times steps old

-- `steps` nodes were assigned, and more could be
pub record IsPartAssigned (steps : ℕ) (old new : BookState) : Type 0 where
  pub count : steps < assignments old
  pub given_ : new ≡ assigned_times steps old

-- so it is of whatever book has these parts and terms
abbrev pub HasAssignedAll : Terms → Frontier → Frontier → ℕ → Type 0
HasAssignedAll terms old new steps =
    (b : BookState) → AreTermsOf b terms
    → IsAllAssigned steps (with_frontier b old) (with_frontier b new)

-- and so is this
abbrev pub HasAssignedPart : Terms → Frontier → Frontier → ℕ → Type 0
HasAssignedPart terms old new steps =
    (b : BookState) → AreTermsOf b terms
    → IsPartAssigned steps (with_frontier b old) (with_frontier b new)

-- as many places of the pool are spare beyond the nodes that ranks work on, and the node that is
-- raced stays
pub record KeepsPlaces (old new : Frontier) : Type 0 where
  pub raced : new.raced ≡ old.raced
  pub pool : new.pool.spare + length (nodes_of old.ranks)
      ≡ old.pool.spare + length (nodes_of new.ranks)
  pub orders : length (nodes_of old.ranks) ≤ old.orders.spare
      → length (nodes_of new.ranks) ≤ new.orders.spare
