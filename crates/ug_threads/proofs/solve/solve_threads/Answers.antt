use Rattle.ug_restart.proofs.Outcomes.{for_saver}
use Rattle.ug_threads.proofs.solve.solve_threads.Goals as goal

pub returns-in-Some-clause-any_moment : goal.returns-in-Some-clause-any_moment
returns-in-Some-clause-any_moment g c =
    for_saver c.args.saver c.in-Some.saver _ c.in-Some.is c.with_saver.ensures.any_moment

pub returns-in-Some-clause-found : goal.returns-in-Some-clause-found
returns-in-Some-clause-found g c =
    for_saver c.args.saver c.in-Some.saver _ c.in-Some.is c.with_saver.ensures.found
