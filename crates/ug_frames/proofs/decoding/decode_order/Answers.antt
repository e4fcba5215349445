use Rattle.std.proofs.Common.{arith}
use Rattle.ug_frames.specs.declared.decoded.Decoded.TheVariants.{NeedMore, Bad}
use Rattle.ug_frames.specs.OrderFrames.{IsCarried}
use Rattle.ug_frames.specs.OrderReading.{order_in}
use Rattle.ug_frames.proofs.Fronts.{told_beyond, only_one, read_is, read_only}
use Rattle.ug_frames.proofs.OrderReaders.{body_of, order_whole, order_small}
use Rattle.ug_frames.proofs.decoding.decode_order.Goals as goal

pub returns-in-CutShort-clause-only : goal.returns-in-CutShort-clause-only
returns-in-CutShort-clause-only c = λ other is.
    only_one IsCarried body_of order_in order_whole order_small
    c.args.bytes.now NeedMore other c.in-CutShort.ensures is

pub returns-in-Bad-clause-read : goal.returns-in-Bad-clause-read
returns-in-Bad-clause-read c =
    told_beyond IsCarried body_of order_in order_whole order_small
    c.args.bytes.now c.in-Bad.ensures

pub returns-in-Bad-clause-only : goal.returns-in-Bad-clause-only
returns-in-Bad-clause-only c = λ other is.
    only_one IsCarried body_of order_in order_whole order_small
    c.args.bytes.now Bad other
    (told_beyond IsCarried body_of order_in order_whole order_small
    c.args.bytes.now c.in-Bad.ensures) is

pub returns-in-There-clause-read : goal.returns-in-There-clause-read
returns-in-There-clause-read c =
    rw c.whole.ensures
    (read_is IsCarried body_of order_in order_whole order_small
    c.args.bytes.now c.in-There.frame.now (λ i. omega (arith, c.type_inv.bytes i))
    c.in-There.ensures c.order_in.result c.order_in.ensures)

pub returns-in-There-clause-only : goal.returns-in-There-clause-only
returns-in-There-clause-only c = λ other is.
    rw c.whole.ensures
    (read_only IsCarried body_of order_in order_whole order_small
    c.args.bytes.now c.in-There.frame.now (λ i. omega (arith, c.type_inv.bytes i))
    c.in-There.ensures c.order_in.result c.order_in.ensures other is)
