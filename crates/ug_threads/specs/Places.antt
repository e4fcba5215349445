-- The place of a pass.
use Rattle.std.specs.Prelude.{◌≡◌, ℕ, Some}
use Rattle.ug_book.specs.declared.opening.Opening.{Opening}
use Rattle.ug_desk.specs.declared.desk.Desk.{Desk}
use Rattle.ug_desk.specs.Passes.{PassState, lock_of_desk}
use Rattle.ug_threads.specs.Actions.{Away}
use Rattle.ug_threads.specs.Traces.{Reaches}

-- it is one of this desk, whose history began with the opening; nobody sits at it, and its calls
-- are those of workers that have left
pub record IsAt (desk : Desk) (o : Opening) (p : PassState) : Type 0 where
  pub lock : p.lock ≡ lock_of_desk desk
  pub opened : p.opening ≡ Some o
  pub trace : Reaches p Away

-- the pass of this rank is
pub record IsAtOf (desk : Desk) (o : Opening) (r : ℕ) (p : PassState) : Type 0 where
  pub at : IsAt desk o p
  pub own : p.rank ≡ r
