use Rattle.std.proofs.Common.{rules, inl, inr}
use Rattle.ug_base.specs.Steps.{IsFound}
use Rattle.ug_worker.proofs.Rounds.{found_by, found_now, stands_found}
use Rattle.ug_base.specs.Steps.{IsPruned, IsSplit}
use Rattle.ug_worker.proofs.Rounds.{made_quiet}
use Rattle.ug_worker.proofs.search.Search.step.Goals as goal

pub solution-requires : goal.solution-requires
solution-requires g c =
    let s = c.requires.stands in
    let found : IsFound c.args.self.now.task c.step.new.self c.in-Found.point = search rules in
    let round_count = c.args.self.now.round_count in
    let At = g.S.Seat.at c.args.seat.now round_count in
    record {
      at = (
        round_count,
        s.now,
        found_now At s.now c.step.new.self c.args.made,
        s.at,
        found_by At c.args.self.now.task c.step.new.self c.args.made c.args.self.now.asked c.in-Found.point
            c.requires.room found c.is_one.ensures s,
      );
    }

pub returns-in-Pruned-clause-stands : goal.returns-in-Pruned-clause-stands
returns-in-Pruned-clause-stands g c =
    let pruned : IsPruned c.args.self.now.task c.step.new.self = search rules in
    made_quiet (g.S.Seat.at c.args.seat.now c.args.self.now.round_count) c.args.self.now.task c.step.new.self c.args.made
    c.args.self.now.asked c.requires.room (inl pruned) c.requires.stands

pub returns-in-Split-clause-stands : goal.returns-in-Split-clause-stands
returns-in-Split-clause-stands g c =
    let split : IsSplit c.args.self.now.task c.step.new.self = search rules in
    made_quiet (g.S.Seat.at c.args.seat.now c.args.self.now.round_count) c.args.self.now.task c.step.new.self c.args.made
    c.args.self.now.asked c.requires.room (inr split) c.requires.stands

pub returns-then-solution-clause-stands : goal.returns-then-solution-clause-stands
returns-then-solution-clause-stands g c =
    let s = c.requires.stands in
    let found : IsFound c.args.self.now.task c.step.new.self c.in-Found.point = search rules in
    let round_count = c.args.self.now.round_count in
    let At = g.S.Seat.at c.args.seat.now round_count in
    let now = found_now At s.now c.step.new.self c.args.made in
    stands_found (g.S.Seat.at c.solution.new.self round_count) c.step.new.self s.now c.args.made c.args.self.now.asked
    c.requires.room s.due s.racing
    (c.if-solution.ensures.found round_count s.now now s.at
    (found_by At c.args.self.now.task c.step.new.self c.args.made c.args.self.now.asked c.in-Found.point
    c.requires.room found c.is_one.ensures s))

pub returns-else-solution-clause-err : goal.returns-else-solution-clause-err
returns-else-solution-clause-err g c =
    let s = c.requires.stands in
    let found : IsFound c.args.self.now.task c.step.new.self c.in-Found.point = search rules in
    let round_count = c.args.self.now.round_count in
    let At = g.S.Seat.at c.args.seat.now round_count in
    c.if-solution.ensures.found round_count s.now (found_now At s.now c.step.new.self c.args.made) s.at
    (found_by At c.args.self.now.task c.step.new.self c.args.made c.args.self.now.asked c.in-Found.point
    c.requires.room found c.is_one.ensures s)
