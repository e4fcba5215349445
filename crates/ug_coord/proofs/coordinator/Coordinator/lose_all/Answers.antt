use Rattle.std.proofs.Common.{rules, refl, ap, arith}
use Rattle.ug_rules.specs.declared.settings.Settings.{Settings}
use Rattle.ug_coord.specs.CoordinatorViews.{coordinator_seen}
use Rattle.ug_coord.specs.Coordinators.{CoordinatorSeen}
use Rattle.ug_coord.proofs.Deaths.{dead_below}
use Rattle.ug_coord.proofs.Coursing.{lost_in}
use Rattle.ug_coord.proofs.Counts.{quiet_none, quiet_on}
use Rattle.ug_coord.proofs.coordinator.Coordinator.lose_all.Goals as goal

pub loop-rank-preserved : goal.loop-rank-preserved
loop-rank-preserved g c = record {
  on = λ from on. lost_in from (coordinator_seen g.C.Crew.seen c.loop-rank.self) (coordinator_seen g.C.Crew.seen c.lose.new.self)
      c.loop-rank.rank (search rules) c.lose.ensures.seen c.lose.ensures.quiet.run.wide (c.loop-rank.invariant.on from on);
  all = dead_below c.loop-rank.rank c.loop-rank.self.book c.lose.new.self.book
      (ap (λ (h : CoordinatorSeen). h.book) c.lose.ensures.seen) c.loop-rank.invariant.all;
  quiet = quiet_on (coordinator_seen g.C.Crew.seen c.args.self.now)
      (coordinator_seen g.C.Crew.seen c.loop-rank.self) (coordinator_seen g.C.Crew.seen c.lose.new.self)
      c.loop-rank.invariant.quiet c.lose.ensures.quiet;
}

pub loop-rank-init : goal.loop-rank-init
loop-rank-init g c = record {
  on = λ from on. on;
  all = λ rank less. absurd (omega (arith, less));
  quiet = quiet_none (coordinator_seen g.C.Crew.seen c.args.self.now) _ refl refl;
}

pub returns-clause-on : goal.returns-clause-on
returns-clause-on g c = c.loop-rank.invariant.on

pub returns-clause-quiet : goal.returns-clause-quiet
returns-clause-quiet g c = c.loop-rank.invariant.quiet

pub returns-clause-all : goal.returns-clause-all
returns-clause-all g c rank there =
    c.loop-rank.invariant.all rank (omega (
      arith,
      there,
      c.settings.ensures.ranks,
      ap (λ (s : Settings). s.solvers) c.settings.ensures.value,
      c.loop-rank.invariant.quiet.run.wide,
      c.loop-rank-test.false,
    ))
