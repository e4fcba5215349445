use Rattle.std.proofs.Common.{refl}
use Rattle.ug_coord.specs.CoordinatorViews.{coordinator_seen}
use Rattle.ug_coord.proofs.Counts.{heard_by}
use Rattle.ug_coord.proofs.coordinator.Coordinator.hear.Goals as goal

pub returns-clause-hears : goal.returns-clause-hears
returns-clause-hears g c =
    heard_by c.hear-heard.result c.args.rank c.args.report (coordinator_seen g.C.Crew.seen c.args.self.now)
    _
    c.hear-heard.ensures.same c.hear-heard.ensures.done refl

pub is_alive-was_alive-requires : goal.is_alive-was_alive-requires
is_alive-was_alive-requires g c = c.requires.there

pub hear-heard-requires-clause-there : goal.hear-heard-requires-clause-there
hear-heard-requires-clause-there g c = c.requires.there

pub hear-heard-requires-clause-hearable : goal.hear-heard-requires-clause-hearable
hear-heard-requires-clause-hearable g c = c.requires.hearable

pub invariant_of-self : goal.invariant_of-self
invariant_of-self g c = record { room = c.args.self.now.room; read = c.args.self.now.read }
