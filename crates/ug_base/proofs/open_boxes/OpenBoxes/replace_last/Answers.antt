use Rattle.std.proofs.Common.{◌∙◌, ◌++◌, ◌∷◌, [], List, ap, subst, sym}
use Rattle.ug_base.specs.declared.open_box.OpenBox.{OpenBox}
use Rattle.ug_base.specs.Floors.{AreLeasts}
use Rattle.ug_base.specs.Fronts.{front_of}
use Rattle.ug_base.proofs.Leasts.{by_result, leasts_put, on_ok, open_boxes_put}
use Rattle.ug_base.proofs.open_boxes.OpenBoxes.replace_last.Goals as goal

pub invariant_of-self : goal.invariant_of-self
invariant_of-self c =
    let old = c.self.inside.kept.items in
    let more = c.args.second ∷ c.args.first ∷ [] in
    by_result c.put_two.result c.put_two.ensures.ok c.put_two.ensures.err
    (λ ok. leasts_put c.self.inside.before old c.put_two.new.kept.items more ok c.self.invariant)
    (λ err. subst (AreLeasts c.self.inside.before) (sym err) c.self.invariant)

pub returns-clause-ok : goal.returns-clause-ok
returns-clause-ok c =
    let more = c.args.second ∷ c.args.first ∷ [] in
    on_ok c.put_two.result c.put_two.ensures.ok
    (λ ok. open_boxes_put c.self.inside.kept.items c.put_two.new.kept.items _ more ok
    ∙ ap (λ (ps : List OpenBox). front_of ps ++ more) c.self.view_is)
