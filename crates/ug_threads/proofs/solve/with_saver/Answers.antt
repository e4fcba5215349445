use Rattle.std.proofs.Common.{refl}
use Rattle.ug_book.specs.Openings.{opening_book}
use Rattle.ug_restart.specs.Moments.{IsOfRun}
use Rattle.ug_restart.proofs.Outcomes.{covered_begun, found_begun, still_covered, still_found}
use Rattle.ug_threads.proofs.solve.with_saver.Goals as goal

pub returns-in_default-clause-any_moment : goal.returns-in_default-clause-any_moment
returns-in_default-clause-any_moment g c = λ sound now. still_covered c.args.saver _ _ refl now

pub returns-in_default-clause-found : goal.returns-in_default-clause-found
returns-in_default-clause-found g c = λ now.
    still_found (IsOfRun (opening_book c.args.opening.now)) c.args.saver _ _ refl now

pub returns-clause-any_moment : goal.returns-clause-any_moment
returns-clause-any_moment g c = λ sound now.
    c.saving.ensures.any_moment sound (covered_begun _ c.args.saver _ _ c.new-saves.ensures now)

pub returns-clause-found : goal.returns-clause-found
returns-clause-found g c = λ now.
    c.saving.ensures.found
    (found_begun (IsOfRun (opening_book c.args.opening.now)) _ c.args.saver _ _ c.new-saves.ensures
    now)
