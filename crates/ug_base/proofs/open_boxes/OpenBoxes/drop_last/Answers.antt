use Rattle.std.proofs.Common.{◌∙◌, List, ap}
use Rattle.ug_base.specs.declared.open_box.OpenBox.{OpenBox}
use Rattle.ug_base.specs.Fronts.{front_of}
use Rattle.ug_base.proofs.Leasts.{leasts_front, open_boxes_front}
use Rattle.ug_base.proofs.open_boxes.OpenBoxes.drop_last.Goals as goal

pub invariant_of-self : goal.invariant_of-self
invariant_of-self c = leasts_front _ c.self.inside.kept.items c.drop_one.new.kept.items c.drop_one.ensures c.self.invariant

pub returns : goal.returns
returns c =
    open_boxes_front c.self.inside.kept.items c.drop_one.new.kept.items c.drop_one.ensures
    ∙ ap (λ (ps : List OpenBox). front_of ps) c.self.view_is
