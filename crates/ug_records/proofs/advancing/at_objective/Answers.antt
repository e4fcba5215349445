use Rattle.std.proofs.Common.{◌∙◌, ap}
use Rattle.ug_records.specs.Rests.{objective_head}
use Rattle.ug_records.proofs.Nexts.{objective_next}
use Rattle.ug_records.proofs.advancing.at_objective.Goals as goal

pub returns : goal.returns
returns c =
    objective_next c.args.problem.now c.put_objective_head.new.line
    (c.put_objective_head.ensures ∙ ap objective_head c.objective.ensures.value)
