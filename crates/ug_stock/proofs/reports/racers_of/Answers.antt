use Rattle.std.proofs.Common.{◌<◌, ◌++◌, ◌∙◌, sym, ap, length, take, List, arith}
use Rattle.ug_rules.specs.declared.contender.Contender.{Contender}
use Rattle.ug_ranks.specs.declared.state.State.{State}
use Rattle.ug_rules.specs.Ranks.{racer_at, racers_in}
use Rattle.ug_stock.proofs.Loops.{more_told}
use Rattle.ug_stock.proofs.reports.racers_of.Goals as goal

pub loop-rank-preserved : goal.loop-rank-preserved
loop-rank-preserved c =
    let k = c.loop-rank.rank in
    let ss = c.args.ranks.now in
    let there : k < length ss = omega (
      arith,
      c.loop-rank-test.true,
      ap (λ (xs : List State). length xs) c.as_slice.ensures.value,
      c.as_slice.ensures,
    ) in
    c.in_ok-add_racer.ensures
    ∙ (ap (λ (rs : List Contender). rs ++ racer_at k c.state.result.now) c.loop-rank.invariant
    ∙ (ap (λ (s : State). racers_in (take k ss) ++ racer_at k s) c.state.ensures
    ∙ sym (more_told racer_at ss k there)))
