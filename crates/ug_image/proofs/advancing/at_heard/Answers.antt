use Rattle.std.proofs.Common.{◌∙◌}
use Rattle.std.specs.Int.{w128}
use Rattle.std.proofs.lemmas.Int.{to_z-of_z}
use Rattle.ug_image.specs.Rests.{heard_line}
use Rattle.ug_image.proofs.Plain.{gap_fits}
use Rattle.ug_image.proofs.Nexts.{heard_next}
use Rattle.ug_image.proofs.advancing.at_heard.Goals as goal

pub returns : goal.returns
returns c =
    let fits = gap_fits c.args.image.now.gap c.requires.image.gap in
    heard_next c.args.image.now c.put_heard.new.line
    (c.put_heard.ensures ∙ (λ i. heard_line c.args.image.now.heard
    (to_z-of_z w128 c.args.image.now.gap fits i) (c.len.ensures i)))
