use Rattle.std.proofs.Common.{◌∙◌, ◌++◌, ap}
use Rattle.ug_image.specs.Rests.{from_front}
use Rattle.ug_image.proofs.Whole.{front_is_all}
use Rattle.ug_image.proofs.blocks.Blocks.new.Goals as goal

pub returns : goal.returns
returns c = ap (λ l. l ++ from_front c.args.image.now) c.in_ok-line.ensures
    ∙ front_is_all c.args.image.now
