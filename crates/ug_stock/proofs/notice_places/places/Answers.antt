use Rattle.std.proofs.Common.{◌≡◌, ◌+◌, ◌∙◌, length, subst, arith}
use Rattle.std.proofs.lemmas.List.{get_or_default}
use Rattle.ug_ranks.specs.declared.state.Off.TheVariants.{Died}
use Rattle.ug_ranks.specs.declared.state.State.{State}
use Rattle.ug_ranks.specs.declared.state.State.TheVariants.{Dead}
use Rattle.ug_ranks.specs.States.{state_at}
use Rattle.ug_rules.specs.State.{node_at}
use Rattle.ug_rules.specs.Ranks.{rank_if}
use Rattle.ug_ranks.specs.Looks.{is_joined}
use Rattle.ug_stock.proofs.Counts.{places_more}
use Rattle.ug_stock.proofs.notice_places.places.Goals as goal

pub loop-state-preserved : goal.loop-state-preserved
loop-state-preserved c =
    let ss = c.as_slice-state-items.result.now in
    let k = c.loop-state.state-index in
    let at : c.state-item.result ≡ state_at ss k =
    c.state-item.is ∙ get_or_default ss k c.state-item.result (Dead Died) c.loop-state-test.true in
    let own = subst
    (λ (s : State). c.places_for-places.result
    ≡ length (rank_if is_joined k s) + length (node_at s)) at (c.places_for-places.ensures.value k) in
    let inv = c.loop-state.invariant in (
      omega (arith, inv.0, own, places_more ss k c.loop-state-test.true),
      omega (arith, inv.1, c.places_for-places.ensures.few),
    )
