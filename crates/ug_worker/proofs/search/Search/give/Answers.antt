use Rattle.std.proofs.Common.{rules}
use Rattle.ug_base.specs.Hands.{IsGiven}
use Rattle.ug_worker.proofs.Rounds.{given_by, given_left, handed_now, still_giving}
use Rattle.ug_worker.proofs.search.Search.give.Goals as goal

pub hand-told-requires : goal.hand-told-requires
hand-told-requires g c =
    let s = c.requires.giving in
    let round_count = c.args.self.now.round_count in
    let At = g.S.Seat.at c.args.seat.now round_count in
    let given : IsGiven c.args.self.now.task c.give.new.self c.in-Some.handed = search rules in
    record {
      at = (
        round_count,
        s.now,
        handed_now At s.now c.give.new.self,
        s.at,
        given_by At round_count c.args.self.now.task c.give.new.self c.in-Some.handed given c.is_one.ensures s,
      );
    }

pub returns-clause-given : goal.returns-clause-given
returns-clause-given g c =
    let s = c.requires.giving in
    let round_count = c.args.self.now.round_count in
    let At = g.S.Seat.at c.args.seat.now round_count in
    let given : IsGiven c.args.self.now.task c.give.new.self c.in-Some.handed = search rules in
    let at = c.in_ok-told.ensures.ok round_count s.now (handed_now At s.now c.give.new.self) s.at
    (given_by At round_count c.args.self.now.task c.give.new.self c.in-Some.handed given c.is_one.ensures s) in
    still_giving At round_count c.args.self.now.task c.give.new.self c.in-Some.handed given s
    (g.S.Seat.at c.hand-told.new.self round_count) at

pub returns-clause-less : goal.returns-clause-less
returns-clause-less g c =
    let given : IsGiven c.args.self.now.task c.give.new.self c.in-Some.handed = search rules in
    given_left c.args.self.now.task c.give.new.self c.in-Some.handed given
