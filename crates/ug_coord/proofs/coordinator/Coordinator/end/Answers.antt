use Rattle.std.proofs.Common.{refl, rules}
use Rattle.ug_coord.specs.CoordinatorViews.{coordinator_seen}
use Rattle.ug_coord.proofs.Closing.{away_on, closed_on, unclosed_on}
use Rattle.ug_coord.proofs.Coursing.{away_is}
use Rattle.ug_coord.proofs.coordinator.Coordinator.end.Goals as goal

pub returns-in-Ok-clause-closed : goal.returns-in-Ok-clause-closed
returns-in-Ok-clause-closed g c from old new k =
    closed_on from (coordinator_seen g.C.Crew.seen c.args.self.now) _ old new c.args.rank _ refl c.if-is_alive.ensures
    (search rules) k

pub returns-in-Err-clause-closed : goal.returns-in-Err-clause-closed
returns-in-Err-clause-closed g c from old new k =
    unclosed_on from (coordinator_seen g.C.Crew.seen c.args.self.now) _ old new c.args.rank c.in-Err.ensures.kept
    c.in-Err.ensures.cause refl k

pub returns-else-is_alive-clause-closed : goal.returns-else-is_alive-clause-closed
returns-else-is_alive-clause-closed g c from old new k =
    away_on from (coordinator_seen g.C.Crew.seen c.args.self.now) old new c.args.rank
    (away_is (g.C.Crew.seen c.args.self.now.crew) c.args.rank c.if-is_alive.ensures) k

pub send-requires : goal.send-requires
send-requires g c = c.if-is_alive.ensures

pub invariant_of-self : goal.invariant_of-self
invariant_of-self g c = record { room = c.args.self.now.room; read = c.args.self.now.read }

pub returns-in-Ok-clause-same : goal.returns-in-Ok-clause-same
returns-in-Ok-clause-same g c = (refl, refl)

pub returns-in-Ok-clause-pacing : goal.returns-in-Ok-clause-pacing
returns-in-Ok-clause-pacing g c = refl

pub returns-in-Err-clause-same : goal.returns-in-Err-clause-same
returns-in-Err-clause-same g c = (refl, refl)

pub returns-in-Err-clause-pacing : goal.returns-in-Err-clause-pacing
returns-in-Err-clause-pacing g c = refl

pub returns-else-is_alive-clause-same : goal.returns-else-is_alive-clause-same
returns-else-is_alive-clause-same g c = (refl, refl)

pub returns-else-is_alive-clause-pacing : goal.returns-else-is_alive-clause-pacing
returns-else-is_alive-clause-pacing g c = refl
