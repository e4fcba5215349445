use Rattle.std.proofs.Common.{◌∙◌, ap, subst}
use Rattle.ug_mps.specs.declared.ending.Tail.{Tail}
use Rattle.ug_mps.specs.Enough.{legible_left}
use Rattle.ug_mps.proofs.Gathered.{Passed, passed_on}
use Rattle.ug_mps.proofs.gathering.pass.Goals as goal

pub loop-preserved : goal.loop-preserved
loop-preserved g c =
    let i = c.loop.invariant in
    let old = (g.S.Source.seen c.args.input.now).left in
    let left = (g.S.Source.seen c.loop.input).left in
    let next = c.in_ok-tail-in-Open.ensures in
    record {
      left = i.left ∙ ap (λ (t : Tail). legible_left left t) c.in-Open.is ∙ next.came.legible;
      room = next.room ∙ i.room;
      calm = next.cause ∙ i.calm;
      passed = passed_on c.args.tail c.in_ok-tail-in-Open.tail c.in-Open.after c.loop.counter old left _
          (subst (λ (t : Tail). Passed c.args.tail t c.loop.counter old left) c.in-Open.is i.passed)
          next.came;
    }
