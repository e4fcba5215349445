use Rattle.std.proofs.Common.{◌∙◌, inl, ap, refl, subst, length, not, List, arith}
use Rattle.std.specs.Prelude.{ℕ, Option}
use Rattle.ug_pool.specs.declared.entry.Entry.{Entry}
use Rattle.ug_stock.specs.Queues.{Queued}
use Rattle.ug_rules.specs.declared.contender.Contender.{Contender}
use Rattle.ug_rules.specs.State.{raced_node}
use Rattle.ug_rules.specs.Deciding.{race_won}
use Rattle.ug_stock.specs.Races.{IsWonAmong}
use Rattle.ug_stock.specs.Frontiers.{with_frontier}
use Rattle.ug_stock.proofs.Won.{is_won, none_raced, none_won, none_works, one_each, one_raced, winner_there}
use Rattle.ug_stock.proofs.frontier.Frontier.end_race.Goals as goal

pub returns-then-is_none-clause-ok : goal.returns-then-is_none-clause-ok
returns-then-is_none-clause-ok c = λ b e.
    none_raced (with_frontier b c.args.self.now)
    c.requires.alone (c.is_none.ensures ∙ ap not c.if-is_none.true)

pub returns-in_default-clause-ok : goal.returns-in_default-clause-ok
returns-in_default-clause-ok c = λ b e.
    none_won (with_frontier b c.args.self.now)
    c.args.enough e
    (subst (λ (rs : List Contender). (rank : ℕ) → IsWonAmong c.args.enough rs rank → ⊥)
    (c.as_slice.ensures.value ∙ c.in_ok-racers.ensures) (c.in_default.ensures.none refl))

pub win_race-requires-clause-racer : goal.win_race-requires-clause-racer
win_race-requires-clause-racer c =
    let won = subst (λ (rs : List Contender). IsWonAmong c.args.enough rs c.in-Some.rank)
    (c.as_slice.ensures.value ∙ c.in_ok-racers.ensures) c.in-Some.ensures.some in
    winner_there c.args.enough c.args.self.now.ranks c.in-Some.rank won

pub win_race-requires-clause-room : goal.win_race-requires-clause-room
win_race-requires-clause-room c =
    let won = subst (λ (rs : List Contender). IsWonAmong c.args.enough rs c.in-Some.rank)
    (c.as_slice.ensures.value ∙ c.in_ok-racers.ensures) c.in-Some.ensures.some in
    omega (
      arith,
      one_each c.in-Some.rank c.args.self.now.ranks
          (winner_there c.args.enough c.args.self.now.ranks c.in-Some.rank won).racing,
      ap (λ (rs : List Contender). length rs) (c.as_slice.ensures.value ∙ c.in_ok-racers.ensures),
      c.as_slice.ensures.len,
      c.len.ensures,
      ap (λ (queue : Queued). queue.spare) c.in_ok-reserve.ensures.ok,
    )

pub returns-clause-ok : goal.returns-clause-ok
returns-clause-ok c = λ b e.
    let old = with_frontier b c.args.self.now in
    let won = subst (λ (rs : List Contender). IsWonAmong c.args.enough rs c.in-Some.rank)
    (c.as_slice.ensures.value ∙ c.in_ok-racers.ensures) c.in-Some.ensures.some in
    inl (
      c.in-Some.rank,
      record {
        won = is_won old c.args.enough c.in-Some.rank e won;
        done = c.win_race.ensures.won old
            ∙ ap (λ (queue : Queued). race_won c.in-Some.rank
            (record old { orders = queue.orders })) c.in_ok-reserve.ensures.ok;
      },
    )

pub returns-clause-room : goal.returns-clause-room
returns-clause-room c =
    let won = subst (λ (rs : List Contender). IsWonAmong c.args.enough rs c.in-Some.rank)
    (c.as_slice.ensures.value ∙ c.in_ok-racers.ensures) c.in-Some.ensures.some in
    record {
      pool = omega (
        arith,
        c.requires.room.pool,
        c.win_race.ensures.over.work,
        ap (λ (raced : Option Entry). length (raced_node raced)) c.win_race.ensures.over.none,
        one_raced c.args.self.now.raced (c.is_none.ensures ∙ ap not c.if-is_none.false),
      );
      orders = omega (
        arith,
        one_each c.in-Some.rank c.args.self.now.ranks
            (winner_there c.args.enough c.args.self.now.ranks c.in-Some.rank won).racing,
        none_works c.args.enough c.args.self.now.ranks c.args.self.now.raced c.in-Some.rank
            c.requires.alone won,
        ap (λ (rs : List Contender). length rs) (c.as_slice.ensures.value ∙ c.in_ok-racers.ensures),
        c.as_slice.ensures.len,
        c.len.ensures,
        ap (λ (queue : Queued). queue.spare) c.in_ok-reserve.ensures.ok,
        c.win_race.ensures.places,
        c.win_race.ensures.over.work,
      );
    }
