use Rattle.std.proofs.Common.{ap, length, List, of_z, to_z, arith}
use mir.Syntax.{w128}
use Rattle.ug_ranks.specs.declared.state.State.{State}
use Rattle.ug_rules.specs.State.{nodes_of}
use Rattle.ug_stock.proofs.Won.{work_won}
use Rattle.ug_stock.proofs.winning.win_race.Goals as goal

pub returns-in-Some-clause-over : goal.returns-in-Some-clause-over
returns-in-Some-clause-over c =
    let floor = to_z w128 (of_z w128 c.in-Some.entry.floor) in
    record {
      none = cc;
      work = omega (
        arith,
        ap (λ (ss : List State). length (nodes_of ss)) c.crown.ensures.ranks,
        work_won c.args.ranks.now c.args.rank
            (record { floor = floor; node = c.in-Some.entry.node }) c.requires.racer.there,
      );
    }
