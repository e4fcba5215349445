use Rattle.std.proofs.Common.{◌≡◌, ◌<◌, sym, ◌∙◌, subst}
use Rattle.std.specs.List.{AllPairs}
use Rattle.ug_rules.specs.Asking.{collecting_ranks}
use Rattle.ug_stock.proofs.Rising.{collecting_rise}
use Rattle.ug_stock.proofs.wanting.wanted.Goals as goal

pub returns-clause-rising : goal.returns-clause-rising
returns-clause-rising c = λ rising.
    let all : c.from_vec.result ≡ collecting_ranks c.args.members.now = c.from_vec.ensures ∙ c.in_ok-ranks.ensures in
    subst (AllPairs (λ one later. one < later)) (sym all) (collecting_rise c.args.members.now rising)
