-- A desk and the crew of all its passes.
use Rattle.std.specs.Prelude.{◌≡◌, ℕ, ◌<◌, List, length, Some, slice_get}
use Rattle.ug_book.specs.declared.opening.Opening.{Opening}
use Rattle.ug_desk.specs.declared.desk.Desk.{Desk}
use Rattle.ug_desk.specs.Passes.{PassState, width_of}
use Rattle.ug_threads.specs.declared.crew.Crew.{Crew}
use Rattle.ug_threads.specs.declared.crew.Table.{Table}
use Rattle.ug_threads.specs.Crews.{ArePassesAt, HasRank, IsNewCrew}
use Rattle.ug_threads.specs.Places.{IsAt}

-- the passes are all that the desk has
pub record AreAllOf (desk : Desk) (o : Opening) (passes : List PassState) : Type 0 where
  pub at : (k : ℕ) (p : PassState) → slice_get passes k ≡ Some p → IsAt desk o p
  pub count : length passes ≡ width_of desk
  pub wide : width_of desk ≡ o.settings.solvers
  pub each : (r : ℕ) → r < width_of desk → HasRank passes r

-- their number is `count`, and all are at the table
pub record AreAllAt (table : Table) (count : ℕ) (passes : List PassState) : Type 0 where
  pub at : ArePassesAt table passes
  pub count_is : length passes ≡ count
  pub each : (r : ℕ) → r < width_of table.desk.now → HasRank passes r

-- the crew has all passes of the desk, and they wait
pub record IsRoom (desk : Desk) (o : Opening) (c : Crew) : Type 0 where
  pub passes : List PassState
  pub new : IsNewCrew passes c
  pub all : AreAllOf desk o passes
