use Rattle.ug_worker.proofs.Rounds.{since_none, stands_under}
use Rattle.ug_worker.proofs.search.Search.know.Goals as goal

pub cutoff-cutoff-requires : goal.cutoff-cutoff-requires
cutoff-cutoff-requires g c =
    let s = c.requires in record {
      at = (c.args.self.now.round_count, s.now, s.at, (since_none s.now c.args.self.now.task s.since).0);
    }

pub returns-clause-stands : goal.returns-clause-stands
returns-clause-stands g c =
    let s = c.requires in
    let round_count = c.args.self.now.round_count in
    stands_under (g.S.Seat.at c.args.seat.now round_count) (g.S.Seat.at c.cutoff-cutoff.new.self round_count)
    c.args.self.now.task c.lower.new.task c.cutoff-cutoff.result c.args.self.now.asked s c.lower.ensures
    (c.cutoff-cutoff.ensures.known round_count s.now s.at (since_none s.now c.args.self.now.task s.since).0)
