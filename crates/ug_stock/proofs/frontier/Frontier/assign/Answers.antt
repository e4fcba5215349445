use Rattle.std.proofs.Common.{◌∙◌, ap, length, List, arith}
use Rattle.ug_stock.specs.Queues.{Queued}
use Rattle.ug_ranks.specs.declared.state.State.{State}
use Rattle.ug_rules.specs.Deciding.{given_to}
use Rattle.ug_stock.proofs.Works.{few_work}
use Rattle.ug_stock.specs.Frontiers.{with_frontier}
use Rattle.ug_stock.proofs.frontier.Frontier.assign.Goals as goal

pub returns-clause-ok : goal.returns-clause-ok
returns-clause-ok c =
    let g = c.give_first.ensures.given in
    let reserved = c.in_ok-reserve.ensures.ok in
    let spare = ap (λ (q : Queued). q.spare) reserved in
    record {
      given_ = record {
        entry = g.entry;
        first = g.first;
        work = g.work;
        written = g.written;
        last = g.last;
        raced = g.raced;
        given_ = λ b t. g.given_ b t
            ∙ ap (λ (q : Queued). given_to c.args.rank g.entry c.give_first.new.self.pool.entries
            (with_frontier b (record c.args.self.now { orders = q }))) reserved;
      };
      pool = c.give_first.ensures.placed.pool;
      working = c.give_first.ensures.placed.working;
      orders = omega (
        arith,
        spare,
        c.give_first.ensures.placed.orders,
        c.give_first.ensures.placed.working,
        few_work c.args.self.now.ranks,
        ap (λ (ss : List State). length ss) c.as_slice.ensures.value,
        c.as_slice.ensures,
      );
    }
