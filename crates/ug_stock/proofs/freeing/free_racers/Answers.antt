use Rattle.std.proofs.Common.{refl, ap, length, List, arith}
use Rattle.ug_ranks.specs.declared.state.State.{State}
use Rattle.ug_ranks.specs.Looks.{is_racing}
use Rattle.ug_stock.proofs.Loops.{all_idled}
use Rattle.ug_stock.proofs.freeing.free_racers.Goals as goal

pub returns : goal.returns
returns c = all_idled is_racing refl c.args.ranks.now c.loop-rank.ranks c.loop-rank.rank
    (omega (
      arith,
      c.loop-rank-test.false,
      ap (λ (ss : List State). length ss) c.as_slice.ensures.value,
      c.as_slice.ensures,
    ))
    c.loop-rank.invariant
