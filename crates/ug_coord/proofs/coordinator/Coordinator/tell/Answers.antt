use Rattle.std.proofs.Common.{rules, refl}
use Rattle.ug_coord.specs.CoordinatorViews.{coordinator_seen}
use Rattle.ug_coord.proofs.Coursing.{passed_on, told_on, unwritten_on}
use Rattle.ug_coord.proofs.Counts.{quiet_none, quiet_on}
use Rattle.ug_coord.proofs.coordinator.Coordinator.tell.Goals as goal

pub returns-then-not-is_alive-clause-on : goal.returns-then-not-is_alive-clause-on
returns-then-not-is_alive-clause-on g c phase from before on left =
    passed_on phase from before (coordinator_seen g.C.Crew.seen c.args.self.now) c.args.told c.if-not-is_alive.ensures left on

pub returns-in-Ok-clause-on : goal.returns-in-Ok-clause-on
returns-in-Ok-clause-on g c phase from before on left =
    told_on c.send.result phase from before (coordinator_seen g.C.Crew.seen c.args.self.now)
    (coordinator_seen g.C.Crew.seen c.send.new.self) c.args.told c.if-not-is_alive.ensures c.encode_order.ensures.carried left
    (search rules) on

pub returns-in-Err-clause-on : goal.returns-in-Err-clause-on
returns-in-Err-clause-on g c phase from before on left =
    unwritten_on phase from before (coordinator_seen g.C.Crew.seen c.args.self.now) c.args.told c.if-not-is_alive.ensures left
    on

pub encode_order-requires : goal.encode_order-requires
encode_order-requires g c = c.requires.order

pub send-requires-clause-alive : goal.send-requires-clause-alive
send-requires-clause-alive g c = c.if-not-is_alive.ensures

pub returns-then-not-is_alive-clause-quiet : goal.returns-then-not-is_alive-clause-quiet
returns-then-not-is_alive-clause-quiet g c =
    quiet_none (coordinator_seen g.C.Crew.seen c.args.self.now) _ refl refl

pub returns-in-Ok-clause-quiet : goal.returns-in-Ok-clause-quiet
returns-in-Ok-clause-quiet g c =
    quiet_on (coordinator_seen g.C.Crew.seen c.args.self.now) _ (coordinator_seen g.C.Crew.seen c.send.new.self)
    (quiet_none _ _ refl refl) c.send.ensures.quiet

pub returns-in-Err-clause-quiet : goal.returns-in-Err-clause-quiet
returns-in-Err-clause-quiet g c = quiet_none (coordinator_seen g.C.Crew.seen c.args.self.now) _ refl refl

pub invariant_of-self : goal.invariant_of-self
invariant_of-self g c = record { room = c.args.self.now.room; read = c.args.self.now.read }

pub invariant_of-self-in-Err : goal.invariant_of-self-in-Err
invariant_of-self-in-Err g c = record { room = c.args.self.now.room; read = c.args.self.now.read }
