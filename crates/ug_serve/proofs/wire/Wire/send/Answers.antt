use Rattle.std.proofs.Common.{rules, sym, subst}
use Rattle.ug_serve.specs.Serving.{stands_as}
use Rattle.ug_serve.proofs.Wires.{failed_told, on_told}
use Rattle.ug_frames.specs.ReportFrames.{spelled}
use Rattle.ug_serve.specs.Tellings.{HasToldAll, HasToldFront}
use Rattle.ug_serve.proofs.wire.Wire.send.Goals as goal

pub returns-in-Ok : goal.returns-in-Ok
returns-in-Ok g c old new report due carried same on =
    let all : HasToldAll (g.L.Link.seen c.args.self.now.link) (g.L.Link.seen c.tell_all.new.link) (spelled report) =
    search rules in
    subst (λ end. stands_as end (g.L.Link.seen c.tell_all.new.link) c.args.self.now.orders new) (sym c.requires)
    (on_told (g.L.Link.seen c.args.self.now.link) (g.L.Link.seen c.tell_all.new.link) c.args.self.now.orders
    old new report due carried all c.in-Ok.ensures.cause on)

pub returns-in-Err : goal.returns-in-Err
returns-in-Err g c old new report due carried same on =
    let front : HasToldFront (g.L.Link.seen c.args.self.now.link) (g.L.Link.seen c.tell_all.new.link) (spelled report) =
    search rules in
    failed_told (g.L.Link.seen c.args.self.now.link) (g.L.Link.seen c.tell_all.new.link) c.args.self.now.orders
    old new report due carried front c.in-Err.ensures.cause on
