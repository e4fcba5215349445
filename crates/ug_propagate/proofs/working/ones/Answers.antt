use Rattle.std.proofs.Common.{◌≡◌, ◌∙◌, ◌-◌, ◌^◌, ℕ, ap, replicate, arith}
use Rattle.ug_propagate.proofs.Fresh.{all_ones}
use Rattle.ug_propagate.proofs.working.ones.Goals as goal

pub loop-preserved : goal.loop-preserved
loop-preserved c = c.in_ok-push.ensures.items ∙ all_ones c.loop.counter c.loop.queued.items c.loop.invariant

pub returns : goal.returns
returns c =
    let all : c.loop.counter ≡ c.args.words = omega (arith, c.loop-test.false, c.loop.auto.counter-end) in
    c.loop.invariant ∙ ap (λ (n : ℕ). replicate n (2 ^ 64 - 1)) all
