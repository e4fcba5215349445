use Rattle.ug_image.proofs.Feasibles.{none_broken}
use Rattle.ug_image.proofs.best.is_feasible.Goals as goal

pub returns : goal.returns
returns c = none_broken c.first_broken.result c.is_none.result c.args.problem.now c.args.point.now
    c.is_none.ensures c.first_broken.ensures.feasible
