use Rattle.ug_serve.proofs.Servers.{rested}
use Rattle.ug_serve.proofs.server.Server.rest.Goals as goal

pub returns-in-None : goal.returns-in-None
returns-in-None g c =
    rested g.L.Link.seen c.args.self.now.post c.args.self.now.wire c.goes_on.new.self c.goes_on.ensures.heard
    c.in-None.is c.requires
