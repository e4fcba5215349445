use Rattle.std.proofs.Common.{◌<◌, length}
use Rattle.std.proofs.lemmas.List.{take_more}
use Rattle.ug_stock.proofs.AskedFirst.{no_member}
use Rattle.ug_stock.proofs.wanting.first.Goals as goal

pub loop-member-preserved : goal.loop-member-preserved
loop-member-preserved c =
    let h : c.loop-member.member-index < length c.args.members.now = c.loop-member-test.true in
    rw (take_more c.args.members.now c.loop-member.member-index no_member h)
    (c.first_of-best.ensures _ c.loop-member.invariant)
