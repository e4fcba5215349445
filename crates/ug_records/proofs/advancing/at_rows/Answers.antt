use Rattle.std.proofs.Common.{◌∙◌, ◌++◌, ap, length}
use Rattle.ug_fields.specs.Spelling.{count_field}
use Rattle.ug_records.proofs.Nexts.{rows_next}
use Rattle.ug_records.proofs.advancing.at_rows.Goals as goal

pub returns : goal.returns
returns c =
    rows_next c.args.problem.now c.put_count.new.self
    (c.put_count.ensures.bytes
    ∙ ap (λ l. l ++ count_field (length c.rows.result.now)) c.requires
    ∙ (λ i. count_field (length (c.rows.ensures.value i))))
