use Rattle.ug_problem.specs.Instances.{instance_of}
use Rattle.ug_problem.proofs.Kept.{gathered_kept}
use Rattle.ug_problem.proofs.entries.gather.Goals as goal

pub returns : goal.returns
returns c =
    gathered_kept (instance_of c.args.columns.now c.args.rows.now c.args.objective.now) c.in_ok-lists.lists
    c.requires.formed c.in_ok-lists.ensures
