use Rattle.std.proofs.Common.{◌-◌, drop, take, rules}
use Rattle.std.specs.Int.{w64, to_be_bytes}
use Rattle.ug_checkpoint.proofs.Giving.{field_long, next_bytes, next_left, to_the_end}
use Rattle.ug_checkpoint.proofs.body.BodyPieces.next.Goals as goal

pub returns-clause-bytes : goal.returns-clause-bytes
returns-clause-bytes c =
    let body = c.args.self.now in
    let field = to_be_bytes w64 body.count in
    let at = 8 - body.left in
    next_bytes (drop at field) body.blocks (take (8 - at) (drop at field)) c.fill-n.new.buffer
    c.next.new.buffer _ c.fill-n.result c.next.result (to_the_end field at (field_long body.count))
    (search rules) (search rules) (search rules) (search rules) c.next.ensures.bytes

pub returns-clause-left : goal.returns-clause-left
returns-clause-left c =
    let body = c.args.self.now in
    let field = to_be_bytes w64 body.count in
    let at = 8 - body.left in
    next_left field body.blocks (take (8 - at) (drop at field)) c.next.new.self c.fill-n.new.buffer
    c.next.new.buffer body.left c.fill-n.result c.next.result body.within (search rules)
    (to_the_end field at (field_long body.count)) (search rules) (search rules)
    (search rules) c.next.ensures.rest
