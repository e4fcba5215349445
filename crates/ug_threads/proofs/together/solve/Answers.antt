use Rattle.std.proofs.Common.{◌∙◌}
use Rattle.ug_threads.proofs.Crews.{new_count, new_crew}
use Rattle.ug_threads.proofs.together.solve.Goals as goal

pub returns-in_default-clause-moves : goal.returns-in_default-clause-moves
returns-in_default-clause-moves g c = g.T.SnapshotSink.stays c.args.sink

pub run-ran-requires-clause-crew : goal.run-ran-requires-clause-crew
run-ran-requires-clause-crew g c κs within =
    let room = c.in-Ok.ensures in
    new_crew _ room.passes c.in-Ok.room.crew room.new room.all.at room.all.each

pub closed-requires : goal.closed-requires
closed-requires g c =
    let room = c.in-Ok.ensures in
    record {
      at = c.run-ran.ensures.passes.at;
      count = c.run-ran.ensures.passes.count_is
          ∙ (new_count room.passes c.in-Ok.room.crew room.new ∙ room.all.count);
      wide = room.all.wide;
      each = c.run-ran.ensures.passes.each;
    }
