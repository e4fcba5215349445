use Rattle.ug_surrogate.proofs.Machine.{word_negated}
use Rattle.ug_surrogate.proofs.exact.divide_up.Goals as goal

pub returns-clause-product : goal.returns-clause-product
returns-clause-product c =
    rw (word_negated c.divide_down.result c.divide_down.ensures.small)
    (rw (word_negated c.args.number c.requires.number) at c.divide_down.ensures.product)
