use Rattle.std.proofs.Common.{arith}
use Rattle.ug_image.proofs.Entire.{image_within}
use Rattle.ug_image.proofs.Verdicts.{no_image, first_bad}
use Rattle.ug_image.proofs.decoding.first_bad.Goals as goal

pub overflow_sub-result : goal.overflow_sub-result
overflow_sub-result c =
    image_within c.args.bytes.now c.args.left (λ i. omega (arith, c.type_inv.bytes i)) c.requires

pub returns-clause-place : goal.returns-clause-place
returns-clause-place c =
    first_bad c.args.bytes.now c.args.left (λ i. omega (arith, c.type_inv.bytes i)) c.requires

pub returns-clause-none : goal.returns-clause-none
returns-clause-none c = no_image c.args.bytes.now c.args.left c.requires
