use Rattle.std.proofs.Common.{sym, subst}
use Rattle.ug_problem.specs.Instances.{IsFormed}
use Rattle.ug_gen.proofs.Limits.{instance_is_formed, only_memory}
use Rattle.ug_gen.proofs.making.make.Goals as goal

pub new-requires-2 : goal.new-requires-2
new-requires-2 c =
    let same = rw c.in_ok-draws.ensures at c.in-Ok.ensures in
    subst IsFormed (sym same) (instance_is_formed c.args.seed c.args.size c.requires.greatest_size)

pub unreachable-requires : goal.unreachable-requires
unreachable-requires c =
    let same = rw c.in_ok-draws.ensures at c.in-Ok.ensures in
    c.in_default.not-Memory (only_memory c.args.seed c.args.size c.in-Err-new.error (rw same at c.in-Err-new.ensures.refused) c.requires.greatest_size)
