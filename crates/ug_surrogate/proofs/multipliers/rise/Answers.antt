use Rattle.std.proofs.Common.{◌-◌, arith, rules}
use Rattle.ug_surrogate.specs.Weights.{IsBefore, multiplier_at}
use Rattle.ug_surrogate.proofs.Places.{rise_next}
use Rattle.ug_surrogate.proofs.multipliers.rise.Goals as goal

pub loop-k-preserved : goal.loop-k-preserved
loop-k-preserved c =
    let list = c.args.list.now in
    let k = c.loop-k.k in
    let here : IsBefore (multiplier_at list (k - 1)) (multiplier_at list k) = search rules in
    rise_next list (k - 1) k (omega arith) c.loop-k.invariant here
