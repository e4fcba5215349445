-- The parts of a book that change when orders are queued.
use Rattle.std.specs.Prelude.{◌≡◌, ℕ, ◌<◌, ◌≤◌, ◌^◌, List, length, All}
use Rattle.ug_rules.specs.declared.demand.Wanted.{Wanted}
use Rattle.ug_rules.specs.declared.demand.Wanted.TheVariants.{Ask, Enough, Nothing}
use Rattle.ug_ranks.specs.declared.state.State.{State}
use Rattle.ug_rules.specs.declared.told.Told.{Told}
use Rattle.ug_rules.specs.State.{BookState, nodes_of}
use Rattle.ug_stock.specs.Queues.{Queued}

-- the book with these ranks and orders
abbrev pub with_told : BookState → List State → List Told → BookState
with_told b ranks orders = record b { ranks = ranks; orders = orders }

-- `working` of the ranks work, and each has a place for its Stop
pub record AreAtWork (working : ℕ) (ranks : List State) (orders : Queued) : Type 0 where
  pub few : length ranks < 2 ^ 32
  pub count : length (nodes_of ranks) ≡ working
  pub room : length (nodes_of ranks) ≤ orders.spare

-- they still do, and each has one
pub record StayAtWork (old new : List State) (orders : Queued) : Type 0 where
  pub work : nodes_of new ≡ nodes_of old
  pub room : length (nodes_of new) ≤ orders.spare

-- of n ranks, those named are some, and a number of nodes fits an order
abbrev pub CanBeTold : ℕ → Wanted → Type 0
CanBeTold n (Ask rank count) = (rank < n) × (count < 2 ^ 32)
CanBeTold n (Enough ranks) = All (λ rank. rank < n) ranks × (length ranks ≤ n)
CanBeTold n Nothing = Unit {0}
