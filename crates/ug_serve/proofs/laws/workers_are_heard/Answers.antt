use Rattle.ug_serve.proofs.Heard.{workers_are_heard}
use Rattle.ug_serve.proofs.laws.workers_are_heard.Goals as goal

pub returns : goal.returns
returns c = workers_are_heard
