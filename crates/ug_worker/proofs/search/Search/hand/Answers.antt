use Rattle.std.proofs.Common.{rules, arith}
use Rattle.ug_base.specs.Hands.{IsHanded}
use Rattle.ug_worker.proofs.Rounds.{handed_by, handed_now, stands_handed}
use Rattle.ug_worker.proofs.Rounds.{some_left}
use Rattle.ug_worker.proofs.search.Search.hand.Goals as goal

pub hand-told-requires : goal.hand-told-requires
hand-told-requires g c =
    let s = c.requires.stands in
    let round_count = c.args.self.now.round_count in
    let At = g.S.Seat.at c.args.seat.now round_count in
    let handed : IsHanded c.args.self.now.task c.hand.new.self c.in-Some.handed = search rules in
    record {
      at = (
        round_count,
        s.now,
        handed_now At s.now c.hand.new.self,
        s.at,
        handed_by At round_count c.args.self.now.task c.hand.new.self c.args.self.now.asked c.in-Some.handed
            c.requires.some handed c.is_one.ensures s,
      );
    }

pub returns-clause-given : goal.returns-clause-given
returns-clause-given g c =
    let s = c.requires.stands in
    let round_count = c.args.self.now.round_count in
    let asked = c.args.self.now.asked in
    let At = g.S.Seat.at c.args.seat.now round_count in
    let handed : IsHanded c.args.self.now.task c.hand.new.self c.in-Some.handed = search rules in
    let at = c.in_ok-told.ensures.ok round_count s.now (handed_now At s.now c.hand.new.self) s.at
    (handed_by At round_count c.args.self.now.task c.hand.new.self asked c.in-Some.handed c.requires.some handed
    c.is_one.ensures s) in (
      stands_handed (g.S.Seat.at c.hand-told.new.self round_count) c.hand.new.self s.now asked c.requires.some s.due
          s.racing at,
      omega (arith, c.requires.some),
      some_left c.args.self.now.task c.hand.new.self c.in-Some.handed handed,
    )
