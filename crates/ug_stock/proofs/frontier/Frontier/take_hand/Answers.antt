use Rattle.std.proofs.Common.{length, List, arith, ap}
use Rattle.ug_problem.specs.Instances.{root_of}
use Rattle.ug_pool.specs.Pools.{Pooled}
use Rattle.ug_ranks.specs.declared.state.State.{State}
use Rattle.ug_stock.proofs.Works.{few_work}
use Rattle.ug_stock.proofs.HandRooms.{few_raced, room_kept}
use Rattle.ug_stock.proofs.frontier.Frontier.take_hand.Goals as goal

pub returns-clause-room : goal.returns-clause-room
returns-clause-room c =
    let s = c.args.self.now in
    let p = c.args.run.now.problem in
    room_kept c.take.result p.objective (root_of p) c.args.rank c.args.changes s
    c.take.new.ranks c.reserve.new.self c.take.new.pool c.requires.hand.there
    c.requires.hand.working
    (omega (
      arith,
      ap (λ (q : Pooled). q.spare) c.in_ok-reserve.ensures.ok,
      ap (λ (ss : List State). length ss) c.as_slice.ensures.value,
      c.as_slice.ensures,
      few_work s.ranks,
      few_raced s.raced,
    ))
    c.requires.room c.take.ensures.ok c.take.ensures.err
