use Rattle.ug_image.proofs.Nexts.{best_next}
use Rattle.ug_image.proofs.advancing.at_best.Goals as goal

pub returns : goal.returns
returns c = best_next c.args.image.now c.put_best_head.new.line c.put_best_head.ensures
