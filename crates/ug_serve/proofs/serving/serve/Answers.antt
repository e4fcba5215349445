use Rattle.ug_stream.specs.Streams.{first}
use Rattle.ug_serve.specs.Actions.{Blank}
use Rattle.ug_serve.proofs.Wires.{on_fresh, wanted_on}
use Rattle.ug_serve.proofs.serving.serve.Goals as goal

pub returns-in_default : goal.returns-in_default
returns-in_default g c =
    wanted_on (g.L.Link.seen c.args.link) first Blank
    (record { said = _; on = on_fresh (g.L.Link.seen c.args.link) c.requires })
