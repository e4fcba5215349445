use Rattle.std.proofs.Common.{rules}
use Rattle.std.specs.Prelude.{take}
use Rattle.ug_io.specs.Crews.{HasHeard}
use Rattle.ug_coord.proofs.streams.take_turn.Goals as goal

pub returns-in-Err-feed : goal.returns-in-Err-feed
returns-in-Err-feed g c =
    let heard : HasHeard (g.C.Crew.seen c.args.crew.now) (g.C.Crew.seen c.turn.new.self) c.turn.new.buffer
    c.in-Ok-Bytes.rank c.in-Ok-Bytes.count = search rules in
    record {
      bytes = take c.in-Ok-Bytes.count c.turn.new.buffer;
      alive = heard.alive;
      said = heard.said;
      lives = heard.lives;
      faults = heard.faults;
      streams = search rules;
    }
