use Rattle.ug_worker.proofs.Silent.{took_any}
use Rattle.ug_problem_tests.proofs.releases.NotebookSeat.take.Goals as goal

pub returns-clause-took : goal.returns-clause-took
returns-clause-took c round_count at = took_any _ (λ round_count some. tt) round_count _ tt _
