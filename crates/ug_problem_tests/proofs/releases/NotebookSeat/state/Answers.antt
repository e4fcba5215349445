use Rattle.ug_worker.proofs.Silent.{replied_any}
use Rattle.ug_problem_tests.proofs.releases.NotebookSeat.state.Goals as goal

pub returns-clause-replied : goal.returns-clause-replied
returns-clause-replied c round_count e f at stated = replied_any _ (λ some. tt) _ f.task _
