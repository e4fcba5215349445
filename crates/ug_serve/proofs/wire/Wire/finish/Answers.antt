use Rattle.std.proofs.Common.{refl}
use Rattle.ug_frames.specs.declared.order.Order.TheVariants.{End}
use Rattle.ug_serve.specs.Actions.{Ending, Over}
use Rattle.ug_serve.proofs.Seating.{ended_by, ended_over, taken_on}
use Rattle.ug_serve.proofs.wire.Wire.finish.Goals as goal

pub returns-in-None : goal.returns-in-None
returns-in-None g c stage taken none next =
    ended_over c.tell.new.self.end (g.L.Link.seen c.tell.new.self.link) c.tell.new.self.orders c.in-None.is
    (c.tell.ensures Ending Over refl
    (taken_on c.args.self.now.end (g.L.Link.seen c.args.self.now.link) c.args.self.now.orders stage Ending End
    c.args.self.now.at none taken next))

pub returns-in-Some : goal.returns-in-Some
returns-in-Some g c stage taken none next =
    ended_by c.tell.new.self.end (g.L.Link.seen c.tell.new.self.link) c.tell.new.self.orders Over _ c.in-Some.is
    (c.tell.ensures Ending Over refl
    (taken_on c.args.self.now.end (g.L.Link.seen c.args.self.now.link) c.args.self.now.orders stage Ending End
    c.args.self.now.at none taken next))
