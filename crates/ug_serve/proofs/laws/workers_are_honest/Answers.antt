use Rattle.ug_serve.proofs.Honesty.{workers_are_honest}
use Rattle.ug_serve.proofs.laws.workers_are_honest.Goals as goal

pub returns : goal.returns
returns c = workers_are_honest
