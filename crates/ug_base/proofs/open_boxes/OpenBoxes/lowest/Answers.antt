use Rattle.std.proofs.Common.{◌∙◌}
use Rattle.ug_base.proofs.Floors.{last_is_least, none_least}
use Rattle.ug_base.proofs.open_boxes.OpenBoxes.lowest.Goals as goal

pub returns-clause-none : goal.returns-clause-none
returns-clause-none c =
    none_least c.args.self.now c.settle.new.kept.items _ (c.settle.ensures.open_boxes ∙ c.self.view_is) c.least_in.ensures

pub returns-clause-some : goal.returns-clause-some
returns-clause-some c =
    last_is_least c.args.self.now c.settle.new.kept.items _ (c.settle.ensures.open_boxes ∙ c.self.view_is) c.settle.ensures.leasts
    c.least_in.ensures
