use Rattle.std.proofs.Common.{refl}
use Rattle.ug_coord.specs.CoordinatorViews.{coordinator_seen}
use Rattle.ug_coord.proofs.Coursing.{decided_by, halted_by}
use Rattle.ug_coord.proofs.Counts.{decided_quiet, stands_quiet}
use Rattle.ug_coord.proofs.coordinator.Coordinator.decide.Goals as goal

pub returns-in-Ok-clause-on : goal.returns-in-Ok-clause-on
returns-in-Ok-clause-on g c from on =
    decided_by from (coordinator_seen g.C.Crew.seen c.args.self.now) _ c.requires.more c.requires.saved c.in-Ok.ensures.decided
    c.in-Ok.ensures.same.wide refl on

pub returns-in-Err-clause-on : goal.returns-in-Err-clause-on
returns-in-Err-clause-on g c from on =
    halted_by from (coordinator_seen g.C.Crew.seen c.args.self.now) _ _ c.requires.more c.requires.saved c.in-Err.ensures.stands
    c.in-Err.ensures.same.wide refl on

pub returns-in-Ok-clause-quiet : goal.returns-in-Ok-clause-quiet
returns-in-Ok-clause-quiet g c =
    decided_quiet (coordinator_seen g.C.Crew.seen c.args.self.now) _ c.in-Ok.ensures.same
    c.in-Ok.ensures.decided refl

pub returns-in-Err-clause-quiet : goal.returns-in-Err-clause-quiet
returns-in-Err-clause-quiet g c =
    stands_quiet _ (coordinator_seen g.C.Crew.seen c.args.self.now) _ c.in-Err.ensures.same
    c.in-Err.ensures.stands refl
