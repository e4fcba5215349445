use Rattle.std.proofs.Common.{◌∙◌, sym, ap, length, get_or, set, List, arith}
use Rattle.std.proofs.lemmas.List.{length-set}
use Rattle.ug_ranks.specs.declared.state.State.{State}
use Rattle.ug_ranks.specs.States.{state_at}
use Rattle.ug_ranks.specs.Changes.{asked_for}
use Rattle.ug_rules.specs.declared.told.Told.{Told}
use Rattle.ug_rules.specs.State.{BookState, nodes_of}
use Rattle.ug_stock.specs.Books.{with_told}
use Rattle.ug_stock.proofs.Asked.{asked_works, stopped_more, stopped_one}
use Rattle.ug_stock.proofs.asking.ask_no_more.Goals as goal

pub loop-rank-preserved : goal.loop-rank-preserved
loop-rank-preserved c =
    let inv = c.loop-rank.invariant in
    let told = c.args.told.now in
    let k = c.loop-rank.rank-index in
    let r = get_or told k 0 in
    let ss = c.loop-rank.ranks in (
      λ b. ap (λ (xs : List State). with_told b xs c.ask_none.new.orders.orders) c.ask_none.ensures.ranks
          ∙ (ap (λ (ts : List Told). with_told b
          (set ss r (asked_for 0 (state_at ss r))) ts) c.ask_none.ensures.orders
          ∙ (ap (λ (book : BookState). stopped_one r book) (inv.0 b)
          ∙ sym (stopped_more told k (with_told b c.args.ranks.now c.args.orders.now.orders)
          c.loop-rank-test.true))),
      omega (arith, inv.1, c.ask_none.ensures.spare),
      ap (λ (xs : List State). nodes_of xs) c.ask_none.ensures.ranks ∙ (asked_works ss r 0 ∙ inv.2),
      ap (λ (xs : List State). length xs) c.ask_none.ensures.ranks
          ∙ (length-set ss r (asked_for 0 (state_at ss r)) ∙ inv.3),
    )
