use Rattle.ug_threads.proofs.Crews.{sat_at}
use Rattle.ug_threads.proofs.crew.sit.Goals as goal

pub work-requires : goal.work-requires
work-requires g c = sat_at c.args.table c.args.pass c.policy_for.result c.policy_for.ensures c.requires
