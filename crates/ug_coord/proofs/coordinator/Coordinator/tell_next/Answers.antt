use Rattle.std.proofs.Common.{refl, rules, sym}
use Rattle.ug_coord.specs.CoordinatorViews.{coordinator_seen}
use Rattle.ug_coord.proofs.Counts.{left_quiet, quiet_on}
use Rattle.ug_coord.proofs.Coursing.{first_order}
use Rattle.std.proofs.lemmas.Bool.{false≢true}
use Rattle.ug_coord.proofs.coordinator.Coordinator.tell_next.Goals as goal

pub tell-requires-clause-order : goal.tell-requires-clause-order
tell-requires-clause-order g c =
    first_order c.args.self.now.book c.next_order.new.self c.in-Some.told c.problem-problem.ensures.book c.in-Some.ensures.told

pub returns-in-Some-clause-on : goal.returns-in-Some-clause-on
returns-in-Some-clause-on g c phase from on =
    c.tell.ensures.on phase from c.args.self.now.book on c.in-Some.ensures.told

pub returns-in-Some-clause-quiet : goal.returns-in-Some-clause-quiet
returns-in-Some-clause-quiet g c =
    quiet_on (coordinator_seen g.C.Crew.seen c.args.self.now) _ (coordinator_seen g.C.Crew.seen c.tell.new.self)
    (left_quiet (coordinator_seen g.C.Crew.seen c.args.self.now)
    (record (coordinator_seen g.C.Crew.seen c.args.self.now) { book = c.next_order.new.self })
    c.in-Some.told (search rules) c.in-Some.ensures.told refl) c.tell.ensures.quiet

pub tell-requires-clause-on : goal.tell-requires-clause-on
tell-requires-clause-on g c =
    (c.requires.on.0, c.args.self.now.book, c.requires.on.1, c.in-Some.ensures.told)

pub returns-in-Some-clause-none : goal.returns-in-Some-clause-none
returns-in-Some-clause-none g c same = absurd (false≢true (sym same))

pub invariant_of-self : goal.invariant_of-self
invariant_of-self g c = record { room = c.args.self.now.room; read = c.args.self.now.read }
