use Rattle.ug_coord.specs.Actions.{Hearing}
use Rattle.ug_coord.specs.CoordinatorViews.{coordinator_seen}
use Rattle.ug_coord.specs.Coordinators.{is_next}
use Rattle.ug_coord.proofs.Coursing.{deciding_rests, hearing_reads, stays_in, steps_on}
use Rattle.ug_coord.proofs.coordinator.Coordinator.listen.Goals as goal

pub turn-requires-then-not-hear_next-clause-on : goal.turn-requires-then-not-hear_next-clause-on
turn-requires-then-not-hear_next-clause-on g c κs within = (
  c.requires.on.0,
  stays_in (is_next Hearing) c.requires.on.0 (coordinator_seen g.C.Crew.seen c.args.self.now)
      (coordinator_seen g.C.Crew.seen c.hear_next.new.self)
      (λ phase on. c.if-not-hear_next.ensures.on phase c.requires.on.0 on) c.requires.on.1,
)

pub returns-then-not-hear_next-clause-on : goal.returns-then-not-hear_next-clause-on
returns-then-not-hear_next-clause-on g c =
    steps_on c.turn-then-not-hear_next.result (is_next Hearing) (is_next Hearing) (coordinator_seen g.C.Crew.seen c.args.self.now)
    (coordinator_seen g.C.Crew.seen c.hear_next.new.self) (coordinator_seen g.C.Crew.seen c.turn-then-not-hear_next.new.self)
    (λ from on. stays_in (is_next Hearing) from (coordinator_seen g.C.Crew.seen c.args.self.now)
    (coordinator_seen g.C.Crew.seen c.hear_next.new.self) (λ phase is. c.if-not-hear_next.ensures.on phase from is) on)
    c.turn-then-not-hear_next.ensures.on

pub returns-clause-on : goal.returns-clause-on
returns-clause-on g c from on =
    deciding_rests from _ (c.if-not-hear_next.ensures.on from (hearing_reads from _ on))
