use Rattle.std.proofs.Common.{sym, subst}
use Rattle.std.proofs.lemmas.Int.{to_z-of_z}
use mir.Syntax.{w128}
use Rattle.ug_worker.specs.declared.round_count.RoundCount.{RoundCount}
use Rattle.ug_worker.specs.Engagements.{IsReplied}
use Rattle.ug_worker.proofs.Rounds.{stated_at, stated_now}
use Rattle.ug_worker.proofs.search.Search.state.Goals as goal

pub state-requires-clause-at : goal.state-requires-clause-at
state-requires-clause-at g c =
    let round_count = c.args.self.now.round_count in
    let At = g.S.Seat.at c.args.seat.now round_count in
    let s = c.requires.told.handed.stands in (
      round_count,
      s.now,
      stated_now At s.now c.args.self.now.task,
      s.at,
      stated_at At round_count c.args.self.now.task c.args.self.now.asked c.args.left c.args.floor _
          (to_z-of_z w128 c.args.floor c.ranges.floor) c.requires.told c.requires.count c.requires.least,
    )

pub obey-requires-clause-replied : goal.obey-requires-clause-replied
obey-requires-clause-replied g c =
    let round_count = c.args.self.now.round_count in
    let At = g.S.Seat.at c.args.seat.now round_count in
    let s = c.requires.told.handed.stands in
    subst (λ (counts : RoundCount). IsReplied (g.S.Seat.at c.state.new.self counts) c.args.self.now.task c.in-Ok.reply)
    (sym c.count.ensures)
    (c.in-Ok.ensures.replied round_count s.now (stated_now At s.now c.args.self.now.task) s.at
    (stated_at At round_count c.args.self.now.task c.args.self.now.asked c.args.left c.args.floor _
    (to_z-of_z w128 c.args.floor c.ranges.floor) c.requires.told c.requires.count c.requires.least))
