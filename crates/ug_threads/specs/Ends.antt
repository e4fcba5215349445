-- The book with which a run ends.
use Rattle.std.specs.Prelude.{◌≡◌}
use Rattle.ug_rules.specs.State.{BookState}
use Rattle.ug_book.specs.declared.opening.Opening.{Opening}
use Rattle.ug_book.specs.Openings.{opening_book}
use Rattle.ug_desk.specs.Entries.{IsLocked, LockedState}
use Rattle.ug_threads.specs.Traces.{IsLedByWorkers}

-- a history leads from what stood when the run began with the opening to this book, in which each
-- pass has the calls of workers that have left
pub record IsEnding (o : Opening) (b : BookState) : Type 0 where
  pub state : LockedState
  pub locked : IsLocked state
  pub began : state.opening ≡ o
  pub worked : IsLedByWorkers o state
  pub is : state.now.book ≡ b

-- a history leads from the given book to this one, in which each pass has the calls of workers that
-- have left
pub record IsReplayOf (given b : BookState) : Type 0 where
  pub state : LockedState
  pub locked : IsLocked state
  pub began : opening_book state.opening ≡ given
  pub worked : IsLedByWorkers state.opening state
  pub is : state.now.book ≡ b
