use Rattle.std.proofs.Common.{arith}
use Rattle.ug_image.proofs.Verdicts.{what_is_read, one_image}
use Rattle.ug_image.proofs.decoding.decode.Goals as goal

pub returns-in-Ok-clause-read : goal.returns-in-Ok-clause-read
returns-in-Ok-clause-read c =
    what_is_read c.args.bytes.now c.in-Ok.image (λ i. omega (arith, c.type_inv.bytes i))
    c.in-Ok.ensures

pub returns-in-Ok-clause-every : goal.returns-in-Ok-clause-every
returns-in-Ok-clause-every c = λ other spell.
    one_image c.args.bytes.now c.in-Ok.image other c.in-Ok.ensures spell

pub returns-in-Err-Bad-clause-every : goal.returns-in-Err-Bad-clause-every
returns-in-Err-Bad-clause-every c = λ image spell. absurd (c.first_bad.ensures.none image spell)
