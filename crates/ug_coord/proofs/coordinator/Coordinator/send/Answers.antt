use Rattle.std.proofs.Common.{ℕ, List, refl, subst}
use Rattle.ug_io.specs.Crews.{HasSent}
use Rattle.ug_coord.specs.CoordinatorViews.{coordinator_seen}
use Rattle.ug_coord.proofs.Coursing.{failed_by, sent_by}
use Rattle.ug_coord.proofs.Counts.{quiet_none, quiet_on}
use Rattle.ug_coord.proofs.coordinator.Coordinator.send.Goals as goal

pub send-requires : goal.send-requires
send-requires g c = c.requires.alive

pub returns-in-Ok-clause-sent : goal.returns-in-Ok-clause-sent
returns-in-Ok-clause-sent g c =
    sent_by (coordinator_seen g.C.Crew.seen c.args.self.now) (g.C.Crew.seen c.send.new.self) c.args.rank
    c.args.self.now.frame.items
    (subst (λ (l : List ℕ). HasSent (g.C.Crew.seen c.args.self.now.crew)
    (g.C.Crew.seen c.send.new.self) c.args.rank l)
    c.deref.ensures.value c.in-Ok.ensures.told) c.in-Ok.ensures.cause

pub returns-in-Ok-clause-quiet : goal.returns-in-Ok-clause-quiet
returns-in-Ok-clause-quiet g c = quiet_none (coordinator_seen g.C.Crew.seen c.args.self.now) _ refl refl

pub returns-in-Ok-clause-frame : goal.returns-in-Ok-clause-frame
returns-in-Ok-clause-frame g c = refl

pub returns-in-Err-clause-sent : goal.returns-in-Err-clause-sent
returns-in-Err-clause-sent g c =
    failed_by (coordinator_seen g.C.Crew.seen c.args.self.now) (g.C.Crew.seen c.send.new.self)
    (coordinator_seen g.C.Crew.seen c.lose.new.self) c.args.rank c.in-Err.ensures.kept
    c.in-Err.ensures.cause c.requires.there
    c.lose.ensures.seen c.lose.ensures.quiet.run.wide

pub returns-in-Err-clause-quiet : goal.returns-in-Err-clause-quiet
returns-in-Err-clause-quiet g c =
    quiet_on (coordinator_seen g.C.Crew.seen c.args.self.now) _ (coordinator_seen g.C.Crew.seen c.lose.new.self)
    (quiet_none (coordinator_seen g.C.Crew.seen c.args.self.now) _ refl refl) c.lose.ensures.quiet

pub returns-in-Err-clause-frame : goal.returns-in-Err-clause-frame
returns-in-Err-clause-frame g c = c.lose.ensures.frame
