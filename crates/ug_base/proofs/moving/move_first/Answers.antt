use Rattle.std.proofs.Common.{◌∙◌, ◌∷◌, List, ap, drop, sym}
use Rattle.ug_rows.specs.declared.area.Interval.{Interval}
use Rattle.ug_base.specs.declared.open_box.OpenBox.{OpenBox}
use Rattle.ug_base.specs.Chains.{areas_of}
use Rattle.ug_base.proofs.moving.move_first.Goals as goal

pub returns-in-Ok-clause-ok : goal.returns-in-Ok-clause-ok
returns-in-Ok-clause-ok c =
    let work = c.args.work.now in
    let rest = drop 1 c.args.open_boxes.now in
    record {
      open_box = c.args.first;
      rest = rest;
      first = c.requires.first;
      left = c.drop_first.ensures;
      boxes = ap (λ (ps : List OpenBox). areas_of work ps) c.requires.first
          ∙ ap (λ (a : List Interval). a ∷ areas_of work rest) (sym c.in_ok-area.ensures)
          ∙ ap (λ (ps : List OpenBox). c.in_ok-area.area ∷ areas_of work ps) (sym c.drop_first.ensures);
      last = c.in-Ok.ensures.ok;
    }
