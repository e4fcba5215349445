use Rattle.ug_worker.proofs.Rounds.{all_given, to_give}
use Rattle.ug_worker.proofs.search.Search.release.Goals as goal

pub give_all-requires : goal.give_all-requires
give_all-requires g c =
    let round_count = c.args.self.now.round_count in
    to_give (g.S.Seat.at c.args.seat.now round_count) round_count c.args.self.now.task c.args.self.now.asked
    c.requires.handed c.requires.due

pub returns-in-Ok-clause-ends : goal.returns-in-Ok-clause-ends
returns-in-Ok-clause-ends g c =
    let round_count = c.give_all.new.self.round_count in
    all_given (g.S.Seat.at c.give_all.new.seat round_count) round_count c.give_all.new.self.task c.in-Ok.ensures.given
    c.is_one.ensures c.in-Ok.ensures.none
