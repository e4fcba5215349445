use Rattle.std.proofs.Common.{◌∙◌, sym, ap, length, List, arith}
use Rattle.ug_ranks.specs.declared.state.State.{State}
use Rattle.ug_ranks.specs.States.{state_at}
use Rattle.ug_rules.specs.State.{nodes_of}
use Rattle.ug_ranks.specs.Looks.{is_racing}
use Rattle.ug_rules.specs.Deaths.{race_lost}
use Rattle.ug_rules.proofs.QueueLemmas.{stops_are_of_called_off}
use Rattle.ug_stock.specs.Frontiers.{with_frontier}
use Rattle.ug_stock.proofs.Rooms.{none_less, one_less, racer_dies}
use Rattle.ug_stock.proofs.frontier.Frontier.die.Goals as goal

pub take_in-requires-clause-pool : goal.take_in-requires-clause-pool
take_in-requires-clause-pool c = omega (
  arith,
  c.requires.room.pool,
  one_less c.args.self.now.ranks c.args.rank (c.in-Some.node, c.in-Some.floor) c.requires.there
      (sym c.kill.ensures.node ∙ c.in-Some.is),
)

pub take_in-requires-clause-orders : goal.take_in-requires-clause-orders
take_in-requires-clause-orders c = omega (
  arith,
  c.requires.room.orders,
  one_less c.args.self.now.ranks c.args.rank (c.in-Some.node, c.in-Some.floor) c.requires.there
      (sym c.kill.ensures.node ∙ c.in-Some.is),
  ap (λ (ss : List State). length (nodes_of ss)) c.kill.ensures.states,
  stops_are_of_called_off c.in-Some.node.line c.kill.new.self,
)

pub returns-in-Some-clause-room : goal.returns-in-Some-clause-room
returns-in-Some-clause-room c =
    let less = one_less c.args.self.now.ranks c.args.rank
    (c.in-Some.node, c.in-Some.floor) c.requires.there
    (sym c.kill.ensures.node ∙ c.in-Some.is) in
    let killed_ = ap (λ (ss : List State). length (nodes_of ss)) c.kill.ensures.states in
    let called = ap (λ (ss : List State). length (nodes_of ss)) c.take_in.ensures.ranks in
    let stops = stops_are_of_called_off c.in-Some.node.line c.kill.new.self in
    record {
      pool = omega (
        arith,
        c.requires.room.pool,
        less,
        killed_,
        called,
        stops,
        c.take_in.ensures.places.0,
      );
      orders = omega (
        arith,
        c.requires.room.orders,
        less,
        killed_,
        called,
        stops,
        c.take_in.ensures.places.1,
      );
    }

pub returns-then-races-clause-died : goal.returns-then-races-clause-died
returns-then-races-clause-died c = λ b.
    let old = c.args.self.now in
    let races = sym c.is_racing-races.ensures ∙ c.if-races.true in
    c.lose_race.ensures.lost old b
    ∙ (ap (λ (ss : List State). race_lost
    (record (with_frontier b old) { ranks = ss })) c.kill.ensures.states
    ∙ sym (racer_dies (state_at c.args.self.now.ranks c.args.rank) c.args.rank (with_frontier b old)
    (ap is_racing (sym c.state.ensures) ∙ races)))

pub returns-then-races-clause-room : goal.returns-then-races-clause-room
returns-then-races-clause-room c =
    let same = none_less c.args.self.now.ranks c.args.rank c.requires.there
    (sym c.kill.ensures.node ∙ c.in-None.is) in
    let killed_ = ap (λ (ss : List State). length (nodes_of ss)) c.kill.ensures.states in
    record {
      pool = omega (arith, c.requires.room.pool, same, killed_, c.lose_race.ensures.room);
      orders = omega (arith, c.requires.room.orders, same, killed_);
    }

pub returns-else-races-clause-room : goal.returns-else-races-clause-room
returns-else-races-clause-room c =
    let same = none_less c.args.self.now.ranks c.args.rank c.requires.there
    (sym c.kill.ensures.node ∙ c.in-None.is) in
    let killed_ = ap (λ (ss : List State). length (nodes_of ss)) c.kill.ensures.states in
    record {
      pool = omega (arith, c.requires.room.pool, same, killed_);
      orders = omega (arith, c.requires.room.orders, same, killed_);
    }
