-- How a solve by workers in memory ends.
use Rattle.std.specs.Prelude.{Option}
use Rattle.ug_disk.specs.Histories.{DiskSeen}
use Rattle.ug_checkpoint.specs.declared.saver.Saver.{Saver}
use Rattle.ug_book.specs.declared.opening.Opening.{Opening}
use Rattle.ug_book.specs.Openings.{opening_book}
use Rattle.ug_book.specs.Views.{IsSameRun}
use Rattle.ug_restart.specs.declared.outcome.End.{End}
use Rattle.ug_restart.specs.Outcomes.{HasFeasible, IfAnswered, IfBook, IfLimited, IsLimited, IsRight}
use Rattle.ug_coord.specs.Ends.{IsAtLimit}
use Rattle.ug_coord.specs.Keeping.{IsKeptSafe}
use Rattle.ug_laws.specs.Laws.{LosesNothing}

-- How a solve by workers of what an opening left has ended. The final book is one of the same run,
-- loses no better point, and has a feasible incumbent, if it has one. An answer is right. At the
-- limit exactly as many reports were received as the limit says, and a node is held. With a saver,
-- if everything that recovery could find was Covered, it is so at each moment.
pub record HasSolved (o : Opening) (saver : Option Saver) (end : End) (old new : DiskSeen) : Type 0 where
  pub same : IfBook end (IsSameRun (opening_book o))
  pub sound : IfBook end LosesNothing
  pub feasible : IfBook end HasFeasible
  pub right : IfAnswered end IsRight
  pub limited : IfLimited end IsLimited
  pub exact : IfLimited end IsAtLimit
  pub safe : IsKeptSafe saver old new
