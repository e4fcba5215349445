use Rattle.ug_worker.proofs.Silent.{replied_any}
use Rattle.ug_problem_tests.proofs.releases.NotebookSeat.look.Goals as goal

pub returns-clause-replied : goal.returns-clause-replied
returns-clause-replied c round_count e at made = replied_any _ (λ some. tt) _ e.task _
