use Rattle.std.proofs.Common.{◌≡◌, ◌≢◌, [], true, false, sym, ap, subst, List, ◌∙◌}
use Rattle.std.specs.Prelude.{◌↔◌, IsTrue}
use Rattle.std.proofs.lemmas.List.{get_or_default}
use Rattle.ug_ranks.specs.declared.state.Off.TheVariants.{Died}
use Rattle.ug_ranks.specs.declared.state.State.{State}
use Rattle.ug_ranks.specs.declared.state.State.TheVariants.{Dead}
use Rattle.ug_ranks.specs.States.{state_at}
use Rattle.ug_rules.specs.Ranks.{ranks_that}
use Rattle.ug_ranks.specs.Looks.{is_racing}
use Rattle.ug_stock.proofs.Loops.{none_is, some_is}
use Rattle.ug_stock.proofs.racer_left.has_racer.Goals as goal

-- src/death.rt:76:13
pub returns-then-is_racing : goal.returns-then-is_racing
returns-then-is_racing c =
    let ss = c.as_slice-state-items.result.now in
    let k = c.loop-state.state-index in
    let at : c.state-item.result ≡ state_at ss k =
    c.state-item.is ∙ get_or_default ss k c.state-item.result (Dead Died) c.loop-state-test.true in
    subst (λ (xs : List State). IsTrue true ↔
    (ranks_that is_racing xs ≢ [])) c.as_slice-state-items.ensures.value
    (some_is ss k (ap is_racing (sym at) ∙ (sym c.is_racing.ensures ∙ c.if-is_racing.true)))

-- src/death.rt:73:1
pub returns : goal.returns
returns c =
    let ss = c.as_slice-state-items.result.now in
    subst (λ (xs : List State). IsTrue false ↔
    (ranks_that is_racing xs ≢ [])) c.as_slice-state-items.ensures.value
    (none_is ss c.loop-state.state-index c.loop-state-test.false c.loop-state.invariant)
