use Rattle.std.proofs.Common.{refl, sym, ◌∙◌, length, ◌≡◌, arith}
use Rattle.std.proofs.lemmas.List.{ext_get_or}
use Rattle.ug_rows.specs.Boxes.{no_interval}
use Rattle.ug_nodes.specs.Changes.{area_by}
use Rattle.ug_nodes.proofs.Areas.{area_by_width}
use Rattle.ug_desk.proofs.area.is_made.Goals as goal

pub returns : goal.returns
returns c =
    let wide : length c.args.area.now ≡ length c.args.root.now = omega arith in (
      λ _. ext_get_or no_interval c.args.area.now (area_by c.args.root.now c.args.changes.now)
          (wide ∙ sym (area_by_width c.args.root.now c.args.changes.now))
          (λ k there. c.loop-j.invariant.same k (omega arith)),
      λ _. refl,
    )
