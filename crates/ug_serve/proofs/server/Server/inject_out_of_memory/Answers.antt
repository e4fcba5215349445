use Rattle.ug_serve.proofs.Servers.{server_front}
use Rattle.ug_serve.proofs.server.Server.inject_out_of_memory.Goals as goal

pub returns-in-None-clause-server : goal.returns-in-None-clause-server
returns-in-None-clause-server g c =
    let front = server_front g.L.Link.seen c.args.self.now c.requires in
    record { now = front.0; front = front.1 }
