use Rattle.std.proofs.Common.{refl, arith}
use Rattle.ug_lists.proofs.Alike.{all_same}
use Rattle.ug_lists.proofs.same.are_same.Goals as goal

pub returns : goal.returns
returns g c = (
  λ _. all_same c.args.a.now c.args.b.now (omega arith) (λ k there. c.loop-j.invariant k (omega arith)),
  λ _. refl,
)
