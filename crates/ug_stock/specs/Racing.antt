-- The beginning of a race.
use Rattle.std.specs.Prelude.{◌≡◌, ℕ, ◌+◌, ◌%◌, List, All, length, slice_set}
use Rattle.ug_nodes.specs.declared.change.Change.{Change}
use Rattle.ug_pool.specs.declared.entry.Entry.{Entry}
use Rattle.ug_ranks.specs.declared.state.State.TheVariants.{Racing}
use Rattle.ug_ranks.specs.Changes.{racer_of}
use Rattle.ug_rules.specs.State.{BookState, nodes_of}
use Rattle.ug_rules.specs.Ranks.{ranks_that}
use Rattle.ug_ranks.specs.Looks.{is_idle}
use Rattle.ug_rules.specs.Deciding.{racer_params, race_begun, raced_by, raced_by_all}
use Rattle.ug_stock.specs.declared.terms.Terms.{Terms}
use Rattle.ug_stock.specs.declared.frontier.Frontier.{Frontier}
use Rattle.ug_stock.specs.Frontiers.{AreTermsOf, with_frontier}
use Rattle.ug_stock.specs.Telling.{ticket_under}

-- each of the boxes is of the entry's node
abbrev pub AreBoxesOf : Entry → List (List Change) → Type 0
AreBoxesOf entry boxes = All (λ box. entry.node.changes ≡ box) boxes

-- the rank takes part in a race for a node of these changes
abbrev pub HasJoinedRace : Terms → ℕ → List Change → Frontier → Frontier → Type 0
HasJoinedRace terms r changes old new =
    (b : BookState) (entry : Entry) → AreTermsOf b terms → entry.node.changes ≡ changes
    → with_frontier b new ≡ raced_by r entry (with_frontier b old)

-- each idle rank does, with these boxes
abbrev pub HaveJoinedRace : Terms → List (List Change) → Frontier → Frontier → Type 0
HaveJoinedRace terms boxes old new =
    (b : BookState) (entry : Entry) → AreTermsOf b terms → AreBoxesOf entry boxes
    → with_frontier b new ≡ raced_by_all (ranks_that is_idle old.ranks) entry (with_frontier b old)

-- the pool and the node that is raced stay
pub record KeepsPoolAndRace (old new : Frontier) : Type 0 where
  pub pool : new.pool ≡ old.pool
  pub raced : new.raced ≡ old.raced

-- an idle rank takes part in the race, under the next ticket, and nothing else changed
pub record HasTakenPart (terms : Terms) (r : ℕ) (changes : List Change) (old new : Frontier)
    : Type 0 where
  pub joined : HasJoinedRace terms r changes old new
  pub ranks : new.ranks ≡ slice_set old.ranks r
      (Racing (racer_of (ticket_under terms (old.last + 1)) (racer_params r)))
  pub last : new.last ≡ old.last + 1
  pub orders : new.orders.spare + 1 ≡ old.orders.spare
  pub kept : KeepsPoolAndRace old new

-- each idle rank does, with one of these boxes, and its order took a place
pub record HaveTakenPart (terms : Terms) (boxes : List (List Change)) (old new : Frontier)
    : Type 0 where
  pub joined : HaveJoinedRace terms boxes old new
  pub nodes : length (nodes_of new.ranks) ≡ length (nodes_of old.ranks)
  pub orders : new.orders.spare + length (ranks_that is_idle old.ranks) ≡ old.orders.spare
  pub kept : KeepsPoolAndRace old new

-- the race began
abbrev pub HasBegun : Terms → Frontier → Frontier → Type 0
HasBegun terms old new =
    (b : BookState) → AreTermsOf b terms → with_frontier b new ≡ race_begun (with_frontier b old)
