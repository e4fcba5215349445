-- The book with which a run starts.
use Rattle.std.specs.Prelude.{◌≡◌, ℕ, ℤ, ◌+◌, List, [], ◌∷◌, Option, None, All, replicate}
use Rattle.ug_rows.specs.Sums.{box_floor}
use Rattle.ug_problem.specs.Instances.{Instance, root_of}
use Rattle.ug_problem.specs.Better.{best_cutoff}
use Rattle.ug_problem.specs.Limits.{IsProblem}
use Rattle.ug_nodes.specs.declared.name.Ticket.{Ticket}
use Rattle.ug_nodes.specs.declared.change.Change.{Change}
use Rattle.ug_nodes.specs.Changes.{area_by}
use Rattle.ug_pool.specs.declared.entry.Entry.{Entry}
use Rattle.ug_pool.specs.Pools.{Pooled, with_entry}
use Rattle.ug_ranks.specs.declared.state.State.TheVariants.{Absent}
use Rattle.ug_ledger.specs.Ledgers.{hand_name}
use Rattle.ug_rules.specs.declared.settings.Settings.{Settings}
use Rattle.ug_rules.specs.State.{BookState}
use Rattle.ug_rules.specs.Books.{HasItsFloor}
use Rattle.ug_stock.specs.declared.run.Run.{Run}
use Rattle.ug_stock.specs.declared.frontier.Frontier.{Frontier}
use Rattle.ug_stock.specs.Runs.{KnowsFloor}
use Rattle.ug_book.specs.declared.opening.Opening.{Opening}

-- the ticket that names the nodes with which a run starts; it is given to no rank
abbrev pub first_ticket : ℕ → Ticket
first_ticket run = record { run = run; number = 0 }

-- the starting node with these changes, and its floor
abbrev pub start_entry : Instance → ℕ → ℕ → List Change → Entry
start_entry p run hand changes = record {
  floor = box_floor p.objective (area_by (root_of p) changes);
  node = record { line = hand_name (first_ticket run) hand ∷ []; changes = changes };
}

-- the starting nodes with these boxes, numbered from this number on
abbrev pub start_entries : Instance → ℕ → ℕ → List (List Change) → List Entry
start_entries p run hand [] = []
start_entries p run hand (changes ∷ boxes) =
    start_entry p run hand changes ∷ start_entries p run (hand + 1) boxes

-- the pool with these put in, one after another
abbrev pub with_entries : List Entry → List Entry → List Entry
with_entries [] pool = pool
with_entries (entry ∷ entries) pool = with_entries entries (with_entry entry pool)

-- a starting node was put in, in a spare place, with its floor
pub record IsStartPut (p : Instance) (run hand : ℕ) (changes : List Change) (old new : Pooled)
    : Type 0 where
  pub entries : new.entries ≡ with_entry (start_entry p run hand changes) old.entries
  pub spare : new.spare + 1 ≡ old.spare
  pub floor : HasItsFloor p (start_entry p run hand changes)

-- the run is the opening's: its problem is one, and its floor is known
pub record IsRunOf (o : Opening) (run : Run) : Type 0 where
  pub problem : run.problem ≡ o.problem
  pub number : run.number ≡ o.run
  pub settings : run.settings ≡ o.settings
  pub floor : KnowsFloor run
  pub sound : IsProblem run.problem

-- the starting nodes with these boxes are in the pool, each with its floor, all ranks are absent,
-- no ticket was given, no order is queued, and this cutoff counts as announced
pub record IsFirstFrontier (run : Run) (cutoff : Option ℤ) (boxes : List (List Change)) (frontier : Frontier)
    : Type 0 where
  pub pool : frontier.pool.entries ≡ with_entries (start_entries run.problem run.number 0 boxes) []
  pub floors : All (HasItsFloor run.problem) frontier.pool.entries
  pub ranks : frontier.ranks ≡ replicate run.settings.solvers Absent
  pub raced : frontier.raced ≡ None
  pub last : frontier.last ≡ 0
  pub orders : frontier.orders.orders ≡ []
  pub announced : frontier.announced ≡ cutoff

-- the starting nodes are in the pool, all ranks are absent, and no ticket was given
abbrev pub started : Instance → ℕ → Option (List ℤ) → List (List Change) → Settings → BookState
started p run best boxes settings = record {
  problem = p;
  run = run;
  settings = settings;
  best = best;
  pool = with_entries (start_entries p run 0 boxes) [];
  ranks = replicate settings.solvers Absent;
  raced = None;
  last = 0;
  orders = [];
  heard = 0;
  announced = best_cutoff p settings.gap best;
}
