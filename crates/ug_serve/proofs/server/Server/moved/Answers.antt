use Rattle.ug_serve.proofs.Servers.{server_on}
use Rattle.ug_serve.proofs.server.Server.moved.Goals as goal

pub returns-in-None : goal.returns-in-None
returns-in-None g c = record {
  server = c.requires;
  serving = server_on g.L.Link.seen c.args.self.post c.args.self.wire c.in-None.is c.requires;
}

pub returns-in-None-2 : goal.returns-in-None-2
returns-in-None-2 g c = record {
  server = c.requires;
  serving = server_on g.L.Link.seen c.args.self.post c.args.self.wire c.in-None-2.is c.requires;
}
