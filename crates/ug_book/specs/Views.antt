-- What contracts see of a book, and the room that it keeps.
use Rattle.std.specs.Prelude.{◌≡◌, length}
use Rattle.ug_problem.specs.Better.{IsSmallCutoff, best_cutoff}
use Rattle.ug_rules.specs.State.{BookState}
use Rattle.ug_rules.specs.Books.{IsBook}
use Rattle.ug_stock.specs.Runs.{KnowsFloor}
use Rattle.ug_stock.specs.Frontiers.{HasRoom}
use Rattle.ug_book.specs.declared.book.Book.TheInside.{Inside}

-- what the fields of a book say
abbrev pub state_of : Inside → BookState
state_of b = record {
  problem = b.run.problem;
  run = b.run.number;
  settings = b.run.settings;
  best = b.incumbent.best;
  pool = b.frontier.pool.entries;
  ranks = b.frontier.ranks;
  raced = b.frontier.raced;
  last = b.frontier.last;
  orders = b.frontier.orders.orders;
  heard = b.heard;
  announced = b.frontier.announced;
}

-- the fields are those of a book, the cutoff is the incumbent's, and there is room for each node
-- that may go back to the pool, and for the Stop of each rank that works
pub record IsRoomy (b : Inside) : Type 0 where
  pub book : IsBook (state_of b)
  pub cutoff : b.incumbent.cutoff
      ≡ best_cutoff b.run.problem b.run.settings.gap b.incumbent.best
  pub small : IsSmallCutoff b.incumbent.cutoff
  pub floor : KnowsFloor b.run
  pub room : HasRoom b.frontier

-- what no call changes: the problem, the run, the settings, and how many ranks there are
pub record IsSameRun (old new : BookState) : Type 0 where
  pub problem : new.problem ≡ old.problem
  pub run : new.run ≡ old.run
  pub settings : new.settings ≡ old.settings
  pub wide : length new.ranks ≡ length old.ranks
