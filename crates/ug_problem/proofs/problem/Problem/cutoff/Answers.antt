use Rattle.std.proofs.Common.{rules, to_z, of_z}
use mir.Syntax.{w128}
use Rattle.ug_problem.proofs.Cutoffs.{cutoff_small}
use Rattle.ug_problem.proofs.problem.Problem.cutoff.Goals as goal

pub returns-clause-within : goal.returns-clause-within
returns-clause-within c = λ inside.
    cutoff_small c.args.self.now c.args.gap c.args.point.now (to_z w128 (of_z w128 c.greater.result))
    c.root.ensures.problem c.requires.gap (search rules) inside
