use Rattle.std.proofs.Common.{◌∙◌, List, ap, map}
use Rattle.ug_base.specs.declared.open_box.OpenBox.{OpenBox}
use Rattle.ug_base.specs.Chains.{unsettled}
use Rattle.ug_base.proofs.Leasts.{leasts_unsettled, open_boxes_unsettled}
use Rattle.ug_base.proofs.open_boxes.OpenBoxes.unsettle.Goals as goal

pub invariant_of-self : goal.invariant_of-self
invariant_of-self c = leasts_unsettled _ c.self.inside.kept.items c.unsettle_all.new.kept.items c.unsettle_all.ensures c.self.invariant

pub returns : goal.returns
returns c =
    open_boxes_unsettled c.self.inside.kept.items c.unsettle_all.new.kept.items c.unsettle_all.ensures
    ∙ ap (λ (ps : List OpenBox). map unsettled ps) c.self.view_is
