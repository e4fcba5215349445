-- A book's stock, what a death does to it, and what is given out under.
use Rattle.std.specs.Prelude.{◌≡◌, ℕ, ◌+◌, ◌≤◌, length}
use Rattle.ug_rules.specs.State.{BookState, cutoff_of_best, nodes_of, raced_node}
use Rattle.ug_rules.specs.Deaths.{killed, race_lost}
use Rattle.ug_stock.specs.declared.frontier.Frontier.{Frontier}
use Rattle.ug_stock.specs.declared.terms.Terms.{Terms}

-- the book with this stock; its problem, its run, its settings and its incumbent are the same
abbrev pub with_frontier : BookState → Frontier → BookState
with_frontier b frontier = record b {
  pool = frontier.pool.entries;
  ranks = frontier.ranks;
  raced = frontier.raced;
  last = frontier.last;
  orders = frontier.orders.orders;
  announced = frontier.announced;
}

-- each node that is out of the pool has a spare place there, and each rank that works one for its
-- Stop
pub record HasRoom (frontier : Frontier) : Type 0 where
  pub pool : length (nodes_of frontier.ranks) + length (raced_node frontier.raced) ≤ frontier.pool.spare
  pub orders : length (nodes_of frontier.ranks) ≤ frontier.orders.spare

-- whatever else the book has, a rank of it was lost
abbrev pub HasDied : ℕ → Frontier → Frontier → Type 0
HasDied rank old new = (b : BookState) → with_frontier b new ≡ killed rank (with_frontier b old)

-- whatever else it has, its race is lost where no racer is left
abbrev pub HasLost : Frontier → Frontier → Type 0
HasLost old new = (b : BookState) → with_frontier b new ≡ race_lost (with_frontier b old)

-- nothing but the orders and what was announced has changed
pub record OnlyTells (old new : Frontier) : Type 0 where
  pub pool : new.pool ≡ old.pool
  pub ranks : new.ranks ≡ old.ranks
  pub raced : new.raced ≡ old.raced
  pub last : new.last ≡ old.last

-- the terms are the book's
pub record AreTermsOf (b : BookState) (terms : Terms) : Type 0 where
  pub run : b.run ≡ terms.run
  pub racing : b.settings.racing ≡ terms.racing
  pub base : b.settings.base ≡ terms.base
  pub cutoff : cutoff_of_best b ≡ terms.cutoff
