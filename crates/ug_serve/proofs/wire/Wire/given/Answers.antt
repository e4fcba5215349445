use Rattle.std.proofs.Common.{rules}
use Rattle.ug_frames.specs.OrderFrames as orders
use Rattle.ug_stream.specs.Streams.{IsBadAt}
use Rattle.ug_serve.proofs.Wires.{bad_on}
use Rattle.ug_serve.proofs.wire.Wire.given.Goals as goal

pub returns-in-Ok-BadFrame : goal.returns-in-Ok-BadFrame
returns-in-Ok-BadFrame g c stage running on =
    let bad : IsBadAt orders.IsCarried orders.spelled c.args.self.now.orders c.next.new.self c.in-Ok-BadFrame.at =
    search rules in
    bad_on (g.L.Link.seen c.args.self.now.link) c.args.self.now.orders c.next.new.self stage c.in-Ok-BadFrame.at
    running bad on
