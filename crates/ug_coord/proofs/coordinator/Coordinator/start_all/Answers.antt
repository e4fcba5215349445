use Rattle.std.proofs.Common.{ℕ, refl, rules, subst, arith}
use Rattle.ug_coord.specs.CoordinatorViews.{coordinator_seen}
use Rattle.ug_coord.specs.Coordinators.{IsStartedAs}
use Rattle.ug_coord.proofs.Counts.{quiet_none, quiet_on}
use Rattle.ug_coord.proofs.coordinator.Coordinator.start_all.Goals as goal

pub loop-rank-init : goal.loop-rank-init
loop-rank-init g c = record {
  on = λ phase from on. on;
  frame = c.requires.frame;
  quiet = quiet_none (coordinator_seen g.C.Crew.seen c.args.self.now) _ refl refl;
}

pub start-requires-clause-on : goal.start-requires-clause-on
start-requires-clause-on g c = (
  c.requires.on.0,
  c.requires.on.1,
  c.loop-rank.invariant.on c.requires.on.0 c.requires.on.1 c.requires.on.2,
)

pub start-requires-clause-frame : goal.start-requires-clause-frame
start-requires-clause-frame g c = c.loop-rank.invariant.frame

pub loop-rank-preserved : goal.loop-rank-preserved
loop-rank-preserved g c = record {
  on = λ phase from on. subst
      (λ (n : ℕ). IsStartedAs n phase from (coordinator_seen g.C.Crew.seen c.start.new.self)) (omega arith)
      (c.start.ensures.on phase from (c.loop-rank.invariant.on phase from on));
  frame = c.start.ensures.frame;
  quiet = quiet_on (coordinator_seen g.C.Crew.seen c.args.self.now)
      (coordinator_seen g.C.Crew.seen c.loop-rank.self) (coordinator_seen g.C.Crew.seen c.start.new.self)
      c.loop-rank.invariant.quiet c.start.ensures.quiet;
}

pub returns-clause-on : goal.returns-clause-on
returns-clause-on g c phase from on =
    subst (λ (n : ℕ). IsStartedAs n phase from (coordinator_seen g.C.Crew.seen c.loop-rank.self)) (search rules)
    (c.loop-rank.invariant.on phase from on)

pub returns-clause-quiet : goal.returns-clause-quiet
returns-clause-quiet g c = c.loop-rank.invariant.quiet
