use Rattle.std.proofs.Common.{true, refl}
use Rattle.ug_coord.specs.CoordinatorViews.{coordinator_seen}
use Rattle.ug_coord.proofs.Coursing.{failed_by, set_by}
use Rattle.ug_coord.proofs.Counts.{quiet_none, quiet_on}
use Rattle.ug_coord.proofs.coordinator.Coordinator.launch.Goals as goal

pub launch-requires : goal.launch-requires
launch-requires g c = c.requires.away

pub returns-in-Ok-clause-launched : goal.returns-in-Ok-clause-launched
returns-in-Ok-clause-launched g c =
    set_by true (coordinator_seen g.C.Crew.seen c.args.self.now) (g.C.Crew.seen c.launch.new.self)
    c.args.rank
    c.in-Ok.ensures.launched c.in-Ok.ensures.cause

pub returns-in-Ok-clause-quiet : goal.returns-in-Ok-clause-quiet
returns-in-Ok-clause-quiet g c = quiet_none (coordinator_seen g.C.Crew.seen c.args.self.now) _ refl refl

pub returns-in-Ok-clause-frame : goal.returns-in-Ok-clause-frame
returns-in-Ok-clause-frame g c = refl

pub returns-in-Err-clause-launched : goal.returns-in-Err-clause-launched
returns-in-Err-clause-launched g c =
    failed_by (coordinator_seen g.C.Crew.seen c.args.self.now) (g.C.Crew.seen c.launch.new.self)
    (coordinator_seen g.C.Crew.seen c.lose.new.self) c.args.rank c.in-Err.ensures.kept
    c.in-Err.ensures.cause c.requires.there
    c.lose.ensures.seen c.lose.ensures.quiet.run.wide

pub returns-in-Err-clause-quiet : goal.returns-in-Err-clause-quiet
returns-in-Err-clause-quiet g c =
    quiet_on (coordinator_seen g.C.Crew.seen c.args.self.now) _ (coordinator_seen g.C.Crew.seen c.lose.new.self)
    (quiet_none (coordinator_seen g.C.Crew.seen c.args.self.now) _ refl refl) c.lose.ensures.quiet

pub returns-in-Err-clause-frame : goal.returns-in-Err-clause-frame
returns-in-Err-clause-frame g c = c.lose.ensures.frame
