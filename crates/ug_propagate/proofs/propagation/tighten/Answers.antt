use Rattle.ug_propagate.proofs.Answers.{told_tightened}
use Rattle.ug_propagate.proofs.propagation.tighten.Goals as goal

pub returns : goal.returns
returns c =
    told_tightened c.args.problem.now c.args.cutoff c.args.area.now _ c.tighten_area.ensures.problem c.requires
    c.tighten_area.ensures.value
