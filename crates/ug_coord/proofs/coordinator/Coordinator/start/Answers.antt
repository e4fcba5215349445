use Rattle.std.proofs.Common.{rules, ◌<◌, ℕ, sym, subst, ◌∙◌, arith}
use Rattle.ug_coord.specs.CoordinatorViews.{coordinator_seen}
use Rattle.ug_coord.proofs.Coursing.{frame_still}
use Rattle.ug_coord.proofs.Counts.{quiet_on}
use Rattle.ug_coord.proofs.Kept.{run_on}
use Rattle.ug_coord.proofs.Starting.{started_as, unstarted_as}
use Rattle.ug_coord.proofs.coordinator.Coordinator.start.Goals as goal

pub returns-then-launch-clause-on : goal.returns-then-launch-clause-on
returns-then-launch-clause-on g c phase from on =
    started_as c.send.result phase from (coordinator_seen g.C.Crew.seen c.args.self.now) (coordinator_seen g.C.Crew.seen c.launch.new.self)
    (coordinator_seen g.C.Crew.seen c.send.new.self) c.args.rank c.launch.new.self.frame.items
    (subst (λ (n : ℕ). c.args.rank < n) (sym on.on.fit.lives) c.requires.there) c.if-launch.ensures.launched
    (search rules) c.send.ensures.sent on

pub returns-else-launch-clause-on : goal.returns-else-launch-clause-on
returns-else-launch-clause-on g c phase from on =
    unstarted_as phase from (coordinator_seen g.C.Crew.seen c.args.self.now) (coordinator_seen g.C.Crew.seen c.launch.new.self) c.args.rank
    c.if-launch.ensures.launched on

pub launch-requires-clause-away : goal.launch-requires-clause-away
launch-requires-clause-away g c = record {
  there = subst (λ (n : ℕ). c.args.rank < n) (sym c.requires.on.2.on.fit.lives) c.requires.there;
  away = c.requires.on.2.later c.args.rank (omega arith);
}

pub launch-requires-clause-there : goal.launch-requires-clause-there
launch-requires-clause-there g c = c.requires.there

pub send-requires-clause-there : goal.send-requires-clause-there
send-requires-clause-there g c =
    subst (λ (n : ℕ). c.args.rank < n) (sym c.launch.ensures.quiet.run.wide) c.requires.there

pub returns-then-launch-clause-frame : goal.returns-then-launch-clause-frame
returns-then-launch-clause-frame g c =
    frame_still c.args.self.now.book c.send.new.self.book c.args.self.now.frame
    c.send.new.self.frame
    (run_on c.args.self.now.book c.launch.new.self.book c.send.new.self.book
    c.launch.ensures.quiet.run
    c.send.ensures.quiet.run) (c.send.ensures.frame ∙ c.launch.ensures.frame) c.requires.frame

pub returns-then-launch-clause-quiet : goal.returns-then-launch-clause-quiet
returns-then-launch-clause-quiet g c =
    quiet_on (coordinator_seen g.C.Crew.seen c.args.self.now) (coordinator_seen g.C.Crew.seen c.launch.new.self)
    (coordinator_seen g.C.Crew.seen c.send.new.self) c.launch.ensures.quiet c.send.ensures.quiet

pub returns-else-launch-clause-frame : goal.returns-else-launch-clause-frame
returns-else-launch-clause-frame g c =
    frame_still c.args.self.now.book c.launch.new.self.book c.args.self.now.frame
    c.launch.new.self.frame
    c.launch.ensures.quiet.run c.launch.ensures.frame c.requires.frame

pub returns-else-launch-clause-quiet : goal.returns-else-launch-clause-quiet
returns-else-launch-clause-quiet g c = c.launch.ensures.quiet
