use Rattle.std.proofs.Common.{take, sym, subst}
use Rattle.ug_serve.specs.Serving.{StandsOn}
use Rattle.ug_serve.proofs.Wires.{on_came, wanted_came}
use Rattle.ug_serve.proofs.Wires.{read_bytes}
use Rattle.ug_serve.proofs.wire.hear.Goals as goal

pub returns-in-Err-clause-heard : goal.returns-in-Err-clause-heard
returns-in-Err-clause-heard g c stage running on =
    let h = read_bytes c.args.wait (g.L.Link.seen c.args.link.now) (g.L.Link.seen c.read.new.self) c.read.new.buffer
    c.in-Ok-Bytes.n _ c.in-Ok-Bytes.field-0-is c.in-Ok-Bytes.ensures.got in
    wanted_came (g.L.Link.seen c.args.link.now) (g.L.Link.seen c.read.new.self) c.args.orders.now stage
    (take c.in-Ok-Bytes.n c.read.new.buffer) h.said on

pub returns-in-Ok-clause-heard : goal.returns-in-Ok-clause-heard
returns-in-Ok-clause-heard g c stage running on =
    let h = read_bytes c.args.wait (g.L.Link.seen c.args.link.now) (g.L.Link.seen c.read.new.self) c.read.new.buffer
    c.in-Ok-Bytes.n _ c.in-Ok-Bytes.field-0-is c.in-Ok-Bytes.ensures.got in
    subst (λ w. StandsOn (g.L.Link.seen c.read.new.self) w stage) (sym c.in-Ok.ensures.ok)
    (on_came (g.L.Link.seen c.args.link.now) (g.L.Link.seen c.read.new.self) c.args.orders.now stage
    (take c.in-Ok-Bytes.n c.read.new.buffer) h.said h.ended c.in-Ok-Bytes.ensures.cause on)
