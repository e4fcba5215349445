use Rattle.ug_coord.specs.CoordinatorViews.{coordinator_seen}
use Rattle.ug_coord.specs.Coordinators.{AnyPhase}
use Rattle.ug_coord.proofs.Coursing.{stays_in}
use Rattle.std.proofs.Common.{refl, sym, ◌∙◌}
use Rattle.std.proofs.lemmas.Bool.{false≢true}
use Rattle.ug_coord.proofs.Counts.{quiet_none, quiet_on}
use Rattle.ug_coord.proofs.coordinator.Coordinator.tell_all.Goals as goal

pub tell_next-requires : goal.tell_next-requires
tell_next-requires g c = record {
  on = (
    c.requires.on.0,
    stays_in AnyPhase c.requires.on.0 (coordinator_seen g.C.Crew.seen c.args.self.now)
        (coordinator_seen g.C.Crew.seen c.loop.self)
        (λ phase on. c.loop.invariant.on phase c.requires.on.0 on) c.requires.on.1,
  );
}

pub loop-init : goal.loop-init
loop-init g c = record {
  next = (tt, tt);
  on = λ phase from on. on;
  quiet = quiet_none (coordinator_seen g.C.Crew.seen c.args.self.now) _ refl refl;
}

pub returns-then-self-clause-on : goal.returns-then-self-clause-on
returns-then-self-clause-on g c = c.loop.invariant.on

pub returns-then-self-clause-quiet : goal.returns-then-self-clause-quiet
returns-then-self-clause-quiet g c = c.loop.invariant.quiet

pub returns-then-self-clause-all : goal.returns-then-self-clause-all
returns-then-self-clause-all g c out_of_memory = absurd (false≢true (sym out_of_memory ∙ c.if-self.true))

pub returns-then-not-tell_next-clause-on : goal.returns-then-not-tell_next-clause-on
returns-then-not-tell_next-clause-on g c phase from on =
    c.tell_next.ensures.on phase from (c.loop.invariant.on phase from on)

pub returns-then-not-tell_next-clause-quiet : goal.returns-then-not-tell_next-clause-quiet
returns-then-not-tell_next-clause-quiet g c =
    quiet_on (coordinator_seen g.C.Crew.seen c.args.self.now) (coordinator_seen g.C.Crew.seen c.loop.self)
    (coordinator_seen g.C.Crew.seen c.tell_next.new.self) c.loop.invariant.quiet c.tell_next.ensures.quiet

pub returns-then-not-tell_next-clause-all : goal.returns-then-not-tell_next-clause-all
returns-then-not-tell_next-clause-all g c out_of_memory = c.if-not-tell_next.ensures.none refl

pub loop-preserved : goal.loop-preserved
loop-preserved g c = record {
  next = (tt, tt);
  on = λ phase from on. c.tell_next.ensures.on phase from (c.loop.invariant.on phase from on);
  quiet = quiet_on (coordinator_seen g.C.Crew.seen c.args.self.now) (coordinator_seen g.C.Crew.seen c.loop.self)
      (coordinator_seen g.C.Crew.seen c.tell_next.new.self) c.loop.invariant.quiet
      c.tell_next.ensures.quiet;
}
