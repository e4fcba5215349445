use Rattle.ug_propagate.proofs.Fresh.{ones_at_fixpoint}
use Rattle.ug_propagate.proofs.working.enqueue_others.Goals as goal

pub returns-in-Unknown : goal.returns-in-Unknown
returns-in-Unknown c = λ area rest.
    ones_at_fixpoint c.args.problem.now c.args.cutoff area c.args.queued.now c.fill.new.words c.requires c.fill.ensures
