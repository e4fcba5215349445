use Rattle.ug_threads.proofs.Traces.{stayed_copy}
use Rattle.ug_threads.proofs.desk_seat.send_if_due.Goals as goal

pub returns-in-Ok : goal.returns-in-Ok
returns-in-Ok g c =
    stayed_copy c.snapshot.result c.args.pass.now c.snapshot.new.pass c.snapshot.ensures.ok c.snapshot.ensures.err

pub returns-in_default-snapshot : goal.returns-in_default-snapshot
returns-in_default-snapshot g c =
    stayed_copy c.snapshot.result c.args.pass.now c.snapshot.new.pass c.snapshot.ensures.ok c.snapshot.ensures.err
