use Rattle.ug_base.specs.Floors.{open_boxes_in}
use Rattle.ug_base.proofs.Leasts.{leasts_anew, open_boxes_anew}
use Rattle.ug_base.proofs.open_boxes.settle.Goals as goal

pub returns-then-is_some-clause-open_boxes : goal.returns-then-is_some-clause-open_boxes
returns-then-is_some-clause-open_boxes c = open_boxes_anew (open_boxes_in c.args.kept.now.items) c.renew.new.kept.items c.renew.ensures

pub returns-then-is_some-clause-leasts : goal.returns-then-is_some-clause-leasts
returns-then-is_some-clause-leasts c = leasts_anew (open_boxes_in c.args.kept.now.items) c.renew.new.kept.items c.renew.ensures
