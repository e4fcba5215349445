use Rattle.ug_coord.specs.Actions.{Hearing}
use Rattle.ug_coord.specs.CoordinatorViews.{coordinator_seen}
use Rattle.ug_coord.specs.Coordinators.{IsRested, is_next}
use Rattle.ug_coord.proofs.Coursing.{any_in, stays_in, steps_on}
use Rattle.ug_coord.proofs.Counts.{quiet_on, steps_after}
use Rattle.std.proofs.Common.{inr, refl}
use Rattle.ug_coord.proofs.coordinator.Coordinator.step.Goals as goal

pub tell_all-requires : goal.tell_all-requires
tell_all-requires g c = record {
  on = (
    c.requires.on.0,
    any_in (is_next Hearing) c.requires.on.0 _
        (c.decide.ensures.on c.requires.on.0 c.requires.on.1),
  );
}

pub returns-then-has_stopped-clause-on : goal.returns-then-has_stopped-clause-on
returns-then-has_stopped-clause-on g c from on = any_in (is_next Hearing) from _ (c.decide.ensures.on from on)

pub returns-then-has_stopped-2-clause-on : goal.returns-then-has_stopped-2-clause-on
returns-then-has_stopped-2-clause-on g c from on =
    any_in (is_next Hearing) from _ (stays_in (is_next Hearing) from (coordinator_seen g.C.Crew.seen c.decide.new.self)
    (coordinator_seen g.C.Crew.seen c.tell_all.new.self) (λ phase is. c.tell_all.ensures.on phase from is)
    (c.decide.ensures.on from on))

pub listen-requires-clause-on : goal.listen-requires-clause-on
listen-requires-clause-on g c κs within = (
  c.requires.on.0,
  stays_in (is_next Hearing) c.requires.on.0 (coordinator_seen g.C.Crew.seen c.decide.new.self)
      (coordinator_seen g.C.Crew.seen c.tell_all.new.self) (λ phase is. c.tell_all.ensures.on phase c.requires.on.0 is)
      (c.decide.ensures.on c.requires.on.0 c.requires.on.1),
)

pub returns-clause-on : goal.returns-clause-on
returns-clause-on g c =
    steps_on c.listen.result IsRested (is_next Hearing) (coordinator_seen g.C.Crew.seen c.args.self.now)
    (coordinator_seen g.C.Crew.seen c.tell_all.new.self) (coordinator_seen g.C.Crew.seen c.listen.new.self)
    (λ from on. stays_in (is_next Hearing) from (coordinator_seen g.C.Crew.seen c.decide.new.self)
    (coordinator_seen g.C.Crew.seen c.tell_all.new.self) (λ phase is. c.tell_all.ensures.on phase from is)
    (c.decide.ensures.on from on)) c.listen.ensures.on

pub returns-clause-hears : goal.returns-clause-hears
returns-clause-hears g c =
    steps_after c.listen.result (coordinator_seen g.C.Crew.seen c.args.self.now)
    (coordinator_seen g.C.Crew.seen c.tell_all.new.self) (coordinator_seen g.C.Crew.seen c.listen.new.self)
    (quiet_on (coordinator_seen g.C.Crew.seen c.args.self.now)
    (coordinator_seen g.C.Crew.seen c.decide.new.self) (coordinator_seen g.C.Crew.seen c.tell_all.new.self)
    c.decide.ensures.quiet c.tell_all.ensures.quiet) c.listen.ensures.hears

pub returns-then-has_stopped-2-clause-hears : goal.returns-then-has_stopped-2-clause-hears
returns-then-has_stopped-2-clause-hears g c =
    quiet_on (coordinator_seen g.C.Crew.seen c.args.self.now) (coordinator_seen g.C.Crew.seen c.decide.new.self)
    (coordinator_seen g.C.Crew.seen c.tell_all.new.self) c.decide.ensures.quiet c.tell_all.ensures.quiet

pub returns-then-has_stopped-clause-hears : goal.returns-then-has_stopped-clause-hears
returns-then-has_stopped-clause-hears g c = c.decide.ensures.quiet

pub returns-then-has_stopped-clause-over : goal.returns-then-has_stopped-clause-over
returns-then-has_stopped-clause-over g c same out_of_memory = c.if-has_stopped.ensures.stopped refl out_of_memory

pub returns-then-has_stopped-2-clause-over : goal.returns-then-has_stopped-2-clause-over
returns-then-has_stopped-2-clause-over g c same out_of_memory =
    c.if-has_stopped-2.ensures.stopped refl out_of_memory

pub returns-clause-over : goal.returns-clause-over
returns-clause-over g c same out_of_memory = inr (inr (c.listen.ensures.all same))

pub listen-requires-clause-settled : goal.listen-requires-clause-settled
listen-requires-clause-settled g c κs within = record {
  more = (c.if-has_stopped-2.ensures.on refl).1;
  told = c.tell_all.ensures.all (c.if-has_stopped-2.ensures.on refl).0;
}
