use Rattle.ug_image.proofs.Nexts.{value_past, value_next}
use Rattle.ug_image.proofs.advancing.at_value.Goals as goal

pub returns-then-k-values : goal.returns-then-k-values
returns-then-k-values c =
    value_past c.args.image.now c.args.k _ c.at_heard.new.line _ c.values-values.ensures
    c.if-k-values.true c.at_heard.ensures

pub returns : goal.returns
returns c =
    value_next c.args.image.now c.args.k _ _ c.put_value.new.line c.values-values.ensures
    c.if-k-values.false c.put_value.ensures
