use Rattle.std.proofs.Common.{◌∙◌, ap, length}
use Rattle.ug_problem.specs.Instances.{Instance}
use Rattle.ug_records.specs.Lengths.{capped}
use Rattle.ug_records.specs.Spelling.{record_of}
use Rattle.ug_records.proofs.Sizes.{capped_record, record_fits}
use Rattle.ug_image.specs.Rests.{front_line}
use Rattle.ug_image.proofs.Nexts.{front_next}
use Rattle.ug_image.proofs.advancing.at_front.Goals as goal

pub overflow_cast-bytes : goal.overflow_cast-bytes
overflow_cast-bytes c =
    record_fits c.args.image.now.problem c.record_length-bytes.result c.requires.image.problem
    (c.record_length-bytes.ensures ∙ ap (λ (p : Instance). capped (length (record_of p)))
    c.problem.ensures.value)

pub returns : goal.returns
returns c =
    front_next c.args.image.now c.put_front.new.line
    (c.put_front.ensures ∙ ap (front_line c.args.image.now.run c.args.image.now.sequence)
    (capped_record c.args.image.now.problem c.record_length-bytes.result c.requires.image.problem
    (c.record_length-bytes.ensures ∙ ap (λ (p : Instance). capped (length (record_of p)))
    c.problem.ensures.value)))
