-- What a hand of a rank that works is answered, and what is done with it.
use Rattle.std.specs.Prelude.{◌≡◌, ℕ, ◌<◌, List, ◌++◌, ◌∷◌, [], length, slice_set}
use Rattle.ug_rows.specs.declared.area.Interval.{Interval}
use Rattle.ug_rows.specs.declared.row.Objective.{Objective}
use Rattle.ug_rows.specs.Sums.{box_floor}
use Rattle.ug_problem.specs.Instances.{root_of}
use Rattle.ug_nodes.specs.declared.name.Name.{Name}
use Rattle.ug_nodes.specs.declared.change.Change.{Change}
use Rattle.ug_nodes.specs.Changes.{AreChangesOf, area_by}
use Rattle.ug_nodes.specs.Outside.{IsFirstOutside, SpellBelow}
use Rattle.ug_pool.specs.Pools.{IsPut, Pooled}
use Rattle.ug_ranks.specs.declared.state.Work.{Work}
use Rattle.ug_ranks.specs.declared.state.State.{State}
use Rattle.ug_ranks.specs.declared.state.State.TheVariants.{Active}
use Rattle.ug_ranks.specs.States.{state_at}
use Rattle.ug_ranks.specs.Changes.{grown}
use Rattle.ug_ledger.specs.Moves.{handed_node, next_hand}
use Rattle.ug_rules.specs.declared.heard.Heard.{Heard}
use Rattle.ug_rules.specs.declared.heard.Heard.TheVariants.{Again, Gap, Outside}
use Rattle.ug_rules.specs.State.{BookState, current_for}
use Rattle.ug_rules.specs.Hearing.{IsHandDue, IsNextHand, IsTooFar}
use Rattle.ug_stock.specs.declared.run.Run.{Run}
use Rattle.ug_stock.specs.Runs.{KnowsFloor}

-- the hand is the next, and spells a box below that of the node that is worked on
pub record IsNext (root : List Interval) (work : Work) (number : ℕ) (changes : List Change)
    : Type 0 where
  pub next : number ≡ length work.taken
  pub below : SpellBelow root work.node.changes changes

-- it is the next, and this is the least column in which it does not
pub record IsOutside (root : List Interval) (work : Work) (number : ℕ) (changes : List Change)
    (column : ℕ) : Type 0 where
  pub next : number ≡ length work.taken
  pub first : IsFirstOutside root work.node.changes changes column

-- the hand is not taken, and gets this answer
abbrev pub IsRefused : List Interval → Work → ℕ → List Change → Heard → Type 0
IsRefused root work number changes Again = number < length work.taken
IsRefused root work number changes (Gap want got) = IsTooFar work number want got
IsRefused root work number changes (Outside column) = IsOutside root work number changes column
IsRefused root work number changes answer = ⊥

-- so it is by the rules, in a book of a problem with this root
abbrev pub RefusedIsDue : Type 0
RefusedIsDue =
    (b : BookState) (work : Work) (number : ℕ) (changes : List Change) (answer : Heard)
    → IsRefused (root_of b.problem) work number changes answer
    → IsHandDue b work number changes answer

abbrev pub NextIsNextHand : Type 0
NextIsNextHand =
    (b : BookState) (work : Work) (number : ℕ) (changes : List Change)
    → IsNext (root_of b.problem) work number changes → IsNextHand b work number changes

-- the rank works on a node of its own
abbrev pub IsWorking : State → Type 0
IsWorking (Active work) = Unit {0}
IsWorking state = ⊥

-- a hand of these changes can be taken of the rank: it works, and they are changes of the root's
-- box, whose floor is known
pub record CanBeTaken (run : Run) (rank : ℕ) (its_changes : List Change) (ranks : List State)
    : Type 0 where
  pub there : rank < length ranks
  pub working : IsWorking (state_at ranks rank)
  pub floor : KnowsFloor run
  pub changes : AreChangesOf (root_of run.problem) its_changes

-- the line of the next hand of a rank that works
abbrev pub IsLineOfNext : State → List Name → Type 0
IsLineOfNext (Active work) line =
    line ≡ work.node.line ++ next_hand (current_for work) ∷ []
IsLineOfNext state line = ⊥

-- the hand was taken: its node was put into the pool, and its box is noted
pub record IsHandTaken (objective : Objective) (root : List Interval) (rank : ℕ)
    (changes : List Change) (old : List State) (old_pool : Pooled) (new : List State)
    (new_pool : Pooled) : Type 0 where
  pub ranks : new ≡ slice_set old rank (grown (area_by root changes) (state_at old rank))
  pub pool : (work : Work) → state_at old rank ≡ Active work
      → IsPut (box_floor objective (area_by root changes)) (handed_node (current_for work) changes)
      old_pool new_pool

-- nothing was changed
pub record IsNothingTaken (old : List State) (old_pool : Pooled) (new : List State)
    (new_pool : Pooled) : Type 0 where
  pub ranks : new ≡ old
  pub pool : new_pool ≡ old_pool
