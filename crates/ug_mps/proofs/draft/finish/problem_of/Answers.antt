use Rattle.ug_problem.specs.Instances.{instance_of}
use Rattle.ug_mps.proofs.ProblemLemmas.{parts_formed, parts_for_memory}
use Rattle.ug_mps.proofs.draft.finish.problem_of.Goals as goal

pub new-requires : goal.new-requires
new-requires c =
    parts_formed c.requires.0 c.requires.1 (instance_of c.from_vec-columns.result c.args.parts.rows c.args.parts.objective)
    (rw c.from_vec-columns.ensures c.requires.2)

pub unreachable-requires : goal.unreachable-requires
unreachable-requires c =
    c.in_default.not-Memory
    (parts_for_memory c.requires.0 c.requires.1 (instance_of c.from_vec-columns.result c.args.parts.rows c.args.parts.objective) c.in-Err.error
    (rw c.from_vec-columns.ensures c.requires.2) c.in-Err.ensures.refused)
