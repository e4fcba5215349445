use Rattle.std.proofs.Common.{arith}
use Rattle.ug_fields.proofs.Simple.{small_reader}
use Rattle.ug_frames.proofs.reading.parts.params_at.Goals as goal

pub params_of-requires : goal.params_of-requires
params_of-requires c =
    let t = (small_reader 0 15).taken c.args.bytes.now c.in_ok-number.number
    c.in_ok-number.rest.now (λ i. omega (arith, c.type_inv.bytes i)) c.in_ok-number.ensures in
    omega (arith, t.1.1)
