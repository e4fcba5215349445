use Rattle.std.proofs.Common.{ap, subst, ◌∙◌, List, length, arith}
use Rattle.std.proofs.lemmas.List.{get_or_default}
use Rattle.ug_ranks.specs.declared.state.Off.TheVariants.{Died}
use Rattle.ug_ranks.specs.declared.state.State.{State}
use Rattle.ug_ranks.specs.declared.state.State.TheVariants.{Dead}
use Rattle.ug_stock.specs.Counting.{AreCounted}
use Rattle.ug_stock.proofs.Counted.{all_counted, one_counted}
use Rattle.ug_stock.proofs.counting.count.Goals as goal

pub loop-state-preserved : goal.loop-state-preserved
loop-state-preserved c =
    let ss = c.as_slice-state-items.result.now in
    let k = c.loop-state.state-index in
    one_counted ss k c.state-item.result c.loop-state.counts c.with_one-counts.result
    c.loop-state-test.true
    (c.state-item.is ∙ get_or_default ss k c.state-item.result (Dead Died) c.loop-state-test.true)
    c.with_one-counts.ensures.absent c.with_one-counts.ensures.idle
    c.with_one-counts.ensures.working c.loop-state.invariant

pub returns-clause-counted : goal.returns-clause-counted
returns-clause-counted c = subst (λ (ss : List State). AreCounted ss c.loop-state.counts)
    c.as_slice-state-items.ensures.value
    (all_counted c.as_slice-state-items.result.now c.loop-state.state-index c.loop-state.counts
    c.loop-state-test.false c.loop-state.invariant)

pub returns-clause-idle : goal.returns-clause-idle
returns-clause-idle c = omega (
  arith,
  c.loop-state.invariant.idle,
  c.loop-state.auto,
  ap (λ (ss : List State). length ss) c.as_slice-state-items.ensures.value,
  c.as_slice-state-items.ensures.count,
)

pub returns-clause-working : goal.returns-clause-working
returns-clause-working c = omega (
  arith,
  c.loop-state.invariant.working,
  c.loop-state.auto,
  ap (λ (ss : List State). length ss) c.as_slice-state-items.ensures.value,
  c.as_slice-state-items.ensures.count,
)
