use Rattle.ug_threads.proofs.Crews.{gone_at}
use Rattle.ug_threads.proofs.crew.work_or_leave.Goals as goal

pub returns-then-load-rank-clause-at : goal.returns-then-load-rank-clause-at
returns-then-load-rank-clause-at g c = gone_at c.args.table c.args.pass c.leave.new.pass c.leave.ensures c.requires
