use Rattle.std.proofs.Common.{◌++◌, sym, ◌∙◌, ap}
use Rattle.ug_records.specs.Rests.{rest_at}
use Rattle.ug_records.proofs.Fronts.{front_is_all}
use Rattle.ug_records.proofs.writing.to_record.Goals as goal

pub loop-stage-init : goal.loop-stage-init
loop-stage-init c =
    let next = c.advance-stage.ensures in
    let begun = sym (front_is_all c.args.problem.now) ∙ next.parts in (
      begun ∙ ap (λ l. l ++ (c.advance-stage.new.line
          ++ rest_at c.args.problem.now c.advance-stage.result)) (sym c.new-out.ensures.items),
      next.last,
    )
