use Rattle.std.proofs.Common.{refl}
use Rattle.ug_coord.specs.CoordinatorViews.{coordinator_seen}
use Rattle.ug_coord.proofs.Counts.{lost_quiet}
use Rattle.ug_coord.proofs.coordinator.Coordinator.lose.Goals as goal

pub returns-clause-quiet : goal.returns-clause-quiet
returns-clause-quiet g c =
    lost_quiet c.args.rank (coordinator_seen g.C.Crew.seen c.args.self.now) _ c.gone.ensures.same
    c.gone.ensures.done refl

pub gone-requires : goal.gone-requires
gone-requires g c = c.requires

pub invariant_of-self : goal.invariant_of-self
invariant_of-self g c = record { room = c.args.self.now.room; read = c.args.self.now.read }

pub returns-clause-frame : goal.returns-clause-frame
returns-clause-frame g c = refl
