use Rattle.ug_rows.proofs.Products.{added, added_small}
use Rattle.ug_rows.proofs.sums.add_product.Goals as goal

pub returns-clause-value : goal.returns-clause-value
returns-clause-value c =
    added c.args.total c.args.factor c.args.value c.from.result
    c.requires.total c.requires.factor c.ranges.total c.ranges.factor c.ranges.value c.from.ensures

pub returns-clause-small : goal.returns-clause-small
returns-clause-small c =
    added_small c.args.total c.args.factor c.args.value c.from.result
    c.requires.total c.requires.factor c.ranges.total c.ranges.factor c.ranges.value c.from.ensures
