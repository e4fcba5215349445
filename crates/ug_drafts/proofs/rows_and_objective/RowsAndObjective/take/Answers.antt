use Rattle.std.proofs.Common.{◌∷◌, [], ◌++◌, ap, sym, ◌∙◌}
use Rattle.ug_drafts.proofs.MadeLemmas.{row_taken}
use Rattle.ug_drafts.proofs.rows_and_objective.RowsAndObjective.take.Goals as goal

pub returns : goal.returns
returns c =
    row_taken c.args.maximise c.args.name c.args.draft c.args.self.now c.in-Ok-Some.made c.push.new.self
    (sym c.is_ignored.ensures ∙ c.if-is_ignored.false)
    (sym c.is_objective-is_objective.ensures ∙ c.if-is_objective.false)
    (sym c.in-Ok-Some.field-0-is ∙ c.in-Ok-Some.ensures)
    (c.in_ok-push.ensures.ok ∙ ap (λ row. c.args.self.now.rows ++ row ∷ []) c.into_row.ensures)
