use Rattle.std.proofs.Common.{◌∙◌, List, Some, None, ap, rules, sym}
use Rattle.std.proofs.lemmas.Int.{to_z-of_z}
use mir.Syntax.{w128}
use Rattle.ug_base.specs.declared.open_boxes.Kept.{Kept}
use Rattle.ug_base.specs.Floors.{least_of}
use Rattle.ug_base.specs.Fronts.{front_of}
use Rattle.ug_base.proofs.Leasts.{least_of_last}
use Rattle.ug_base.proofs.open_boxes.least_in.Goals as goal

pub returns-in-Some : goal.returns-in-Some
returns-in-Some c =
    let kept = c.args.kept.now.items in
    ap Some (to_z-of_z w128 c.least_up_to.result (search rules) ∙ c.least_up_to.ensures)
    ∙ sym (ap (λ (ks : List Kept). least_of None ks) c.in-Some.ensures ∙ least_of_last None (front_of kept) c.in-Some.last.now)

pub returns-in-None : goal.returns-in-None
returns-in-None c = sym (ap (λ (ks : List Kept). least_of None ks) c.in-None.ensures)
