use Rattle.std.proofs.Common.{◌∙◌, ◌++◌, ap, length}
use Rattle.ug_fields.specs.Spelling.{count_field}
use Rattle.ug_records.proofs.Nexts.{front_next}
use Rattle.ug_records.proofs.advancing.at_front.Goals as goal

pub returns : goal.returns
returns c =
    front_next c.args.problem.now c.put_count.new.self
    (c.put_count.ensures.bytes
    ∙ ap (λ l. l ++ count_field (length c.columns.result.now)) c.requires
    ∙ (λ i. count_field (length (c.columns.ensures.value i))))
